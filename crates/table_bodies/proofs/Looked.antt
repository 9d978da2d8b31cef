-- Whether a body of events is read.
use Rattle.std.proofs.Common.{◌≡◌, ◌∙◌, ◌≤◌, ℕ, List, length, drop, None, ap, sym, le-leb}
use Rattle.std.specs.Prelude.{nat_le, is_some}
use Rattle.std.proofs.lemmas.Bool.{cond-true}
use Rattle.si_lists.proofs.Outcomes.{mapped}
use Rattle.table_bodies.specs.Entries.{entries_in}
use Rattle.table_bodies.specs.Eit.{event_in, head_of, eit_with, eit_in}

-- the entries after a head decide
pub eit_test : (body : List ℕ) → 6 ≤ length body → is_some (entries_in 10 event_in (drop 6 body)) ≡ is_some (eit_in body)
eit_test body le =
    mapped (eit_with (head_of body)) (entries_in 10 event_in (drop 6 body))
    ∙ sym (ap is_some (cond-true (nat_le 6 (length body)) _ None (le-leb 6 (length body) le)))
