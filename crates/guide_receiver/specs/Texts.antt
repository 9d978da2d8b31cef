-- The line of a completion.
use Rattle.std.specs.Prelude.{ℕ, ◌++◌, List, [], ◌∷◌, codes, decimal, flat_map}
use Rattle.guide_receiver.specs.Dones.{DoneAt}

-- a number behind a tab
abbrev pub field_text : ℕ → List ℕ
field_text n = codes "\t" ++ decimal n

-- `done`, and then the packet in which its last section ended, PID, table_id, of the key table_id_extension, transport_stream_id and
-- original_network_id, and version_number, each behind a tab
abbrev pub done_line : DoneAt → List ℕ
done_line d =
    codes "done"
    ++ flat_map field_text (d.packet ∷ d.done.key.pid ∷ d.done.key.table ∷ d.done.key.ext ∷ d.done.key.stream ∷ d.done.key.network ∷ d.done.version ∷ [])
    ++ codes "\n"

abbrev pub done_lines : List DoneAt → List ℕ
done_lines dones = flat_map done_line dones
