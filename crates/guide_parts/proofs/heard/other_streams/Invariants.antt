use Rattle.std.proofs.Common.{◌≡◌, Option, map, filter, take}
use Rattle.section_codec.specs.declared.table.Key.{Key}
use Rattle.section_codec.specs.Contents.{Content}
use Rattle.guide_screen.specs.Holding.{KeepsContents}
use Rattle.guide_screen.specs.Screen.{other_stream}
use Rattle.guide_parts.specs.PartScreen.{is_foreign}
use Rattle.guide_parts.proofs.heard.other_streams.Given as goal

-- the streams of the SDTs so far
abbrev pub invariant-loop-sdt : goal.invariant-loop-sdt
invariant-loop-sdt l =
    (content : Key → Option Content) → KeepsContents l.contents content
    → l.shown.items ≡ map (other_stream content l.streams) (filter (is_foreign l.home) (take l.sdt-index l.sdts))
