-- Keys are compared, and have an order.
use Rattle.std.specs.Prelude.{Bool, ◌==◌, ◌&&◌, List, []}
use Rattle.std.specs.List.{fold}
use Rattle.std.specs.BTreeSet.{insert_key}
use Rattle.std.specs.declared.cmp.Ordering.{Ordering}
use Rattle.section_codec.specs.declared.table.Key.{Key}
use Rattle.section_codec.specs.contracts.table.KeyOrd.TheImpl as key_ord

abbrev pub is_key : Key → Key → Bool
is_key a b = a.pid == b.pid && a.table == b.table && a.ext == b.ext && a.stream == b.stream && a.network == b.network

-- the order of keys
abbrev pub key_cmp : Key → Key → Ordering
key_cmp = (key_ord.ghosts).cmp

-- these keys in their order, each once
abbrev pub in_order : List Key → List Key
in_order keys = fold (insert_key key_cmp) [] keys
