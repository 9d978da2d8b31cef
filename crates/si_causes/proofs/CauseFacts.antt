-- Counts that rose stay risen; what is appended to a text.
use Rattle.std.proofs.Common.{ℕ, ◌+◌, ◌-◌, ◌^◌, ◌≤◌, List, [], ◌++◌, Option, Some, None, length, take, sym, subst, arith, inl, inr, append-nil, length-append}
use Rattle.std.specs.Io.KnownBytes.{Appends}
use Rattle.std.proofs.KnownBytes.{Appends-trans}
use Rattle.std.proofs.Math.Seq.{take-append-add}
use Rattle.std.proofs.lemmas.Bool.{cases_lt}
use Rattle.si_causes.specs.Causes.{Rose, AppendsFront}

-- a count that did not fall, and then rose, has risen
pub Rose-from : (a b c : ℕ) → a ≤ b → Rose b c → Rose a c
Rose-from a b c le (inl lt) = inl (omega arith)
Rose-from a b c le (inr last) = inr last

-- a count that rose, and then did not fall, has risen
pub Rose-to : (a b c : ℕ) → a ≤ b → Rose a b → b ≤ c → Rose a c
Rose-to a b c le (inl lt) later = inl (omega arith)
Rose-to a b c le (inr last) later =
    elim (cases_lt (2 ^ 64 - 1) c) [ inl beyond ↦ inl (omega arith) | inr up_to ↦ inr (omega arith) ]

-- nothing is appended where nothing changes
pub Appends-nothing : (text : Option (List ℕ)) → Appends text text []
Appends-nothing None = tt
Appends-nothing (Some xs) = sym (append-nil xs)

-- a front behind what was appended is a front of all
pub front_behind : (a b c : Option (List ℕ)) (sent due : List ℕ) → Appends a b sent → AppendsFront b c due → AppendsFront a c (sent ++ due)
front_behind a b c sent due p q = (
  length sent + q.0,
  omega (arith, q.1, length-append sent due),
  subst (Appends a c) (sym (take-append-add sent due q.0)) (Appends-trans a b c sent (take q.0 due) p q.2),
)
