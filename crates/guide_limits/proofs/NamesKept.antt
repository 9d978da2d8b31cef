-- The names that edits give a service may be kept, where the edits are as they are read.
use Rattle.std.proofs.Common.{ℕ, ◌==◌, Bool, true, false, List, [], ◌∷◌, Option, Some, None}
use Rattle.std.specs.Prelude.{IfSome, if◌then◌else◌}
use Rattle.std.specs.List.{AllByRecursion, cons_option, filter_map}
use Rattle.guide_model.specs.Decoding.{IsKept}
use Rattle.journal_model.specs.declared.edit.Edit.{Edit}
use Rattle.journal_model.specs.declared.edit.Edit.TheVariants.{Put, Withdraw, Clear, Name, Day}
use Rattle.journal_model.specs.Edits.{IsTypedEdit}
use Rattle.guide_limits.specs.Standing.{Names, last_or, names_in}

abbrev pub AreNames : Names → Type 0
AreNames names = IsKept names.0 × IsKept names.1

pub last_kept : (first : Names) (xs : List Names) → AreNames first → AllByRecursion AreNames xs → AreNames (last_or first xs)
last_kept first [] here all = here
last_kept first (x ∷ xs) here all = last_kept x xs all.0 all.1

names_given : (service : ℕ) (e : Edit) → IsTypedEdit e → IfSome (names_in service e) AreNames
names_given service (Put at item) typed = tt
names_given service (Withdraw at gone) typed = tt
names_given service (Clear at) typed = tt
names_given service (Name at provider name) typed = go (at == service)
  where
    go : (same : Bool) → IfSome (if same then Some (provider, name) else None) AreNames
    go true = (typed.1, typed.2)
    go false = tt
names_given service (Day at day items) typed = tt

-- one that is there has it, and so have the others
pub with_front : {X : Type 0} (P : X → Type 0) (o : Option X) (xs : List X) → IfSome o P → AllByRecursion P xs → AllByRecursion P (cons_option o xs)
with_front P None xs one rest = rest
with_front P (Some x) xs one rest = (one, rest)

pub all_given : (service : ℕ) (past : List Edit) → AllByRecursion IsTypedEdit past → AllByRecursion AreNames (filter_map (names_in service) past)
all_given service [] typed = tt
all_given service (e ∷ past) typed =
    with_front AreNames (names_in service e) (filter_map (names_in service) past) (names_given service e typed.0) (all_given service past typed.1)
