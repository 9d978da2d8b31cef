-- PIDs by program.
use Rattle.std.proofs.Common.{◌≡◌, ℕ, ◌+◌, ◌<◌, Bool, true, false, List, length, drop, get_or, Option, Some, refl, sym, ap, ap₂, ◌∙◌}
use Rattle.std.proofs.Common.{arith, BTreeMap, Less, Equal, Greater, nat_cmp, is_eq}
use Rattle.std.specs.Prelude.{if◌then◌else◌, cond, ◌==◌, nat_lt}
use Rattle.std.specs.BTreeMap.{get, Updates}
use Rattle.std.proofs.lemmas.Bool.{ltb-true, eqb-true, false_from_ne_true}
use Rattle.std.proofs.lemmas.List.{drop_more}
use Rattle.table_bodies.specs.declared.pat.PatEntry.{PatEntry}
use Rattle.guide_screen.specs.Screen.{pid_in}

-- keys that compare as equal are equal
at_key : (a b : ℕ) → is_eq (nat_cmp a b) ≡ (a == b)
at_key a b = go (nat_lt a b) refl
  where
    by_test : (same : Bool) → is_eq (cond same Equal Greater) ≡ same
    by_test true = refl
    by_test false = refl

    go : (less : Bool) → nat_lt a b ≡ less → is_eq (cond less Less (cond (a == b) Equal Greater)) ≡ (a == b)
    go true e = sym (false_from_ne_true (a == b) (λ f. let same = eqb-true a b f in let lt = ltb-true a b e in omega (arith, same, lt)))
    go false e = by_test (a == b)

-- the one before those that are in the map is put
pub pid_put : (es : List PatEntry) (left kept : ℕ) (d : PatEntry) (pids more : BTreeMap ℕ ℕ) → left < length es → kept ≡ left + 1
    → ((program : ℕ) → get nat_cmp pids program ≡ pid_in program (drop kept es))
    → Updates nat_cmp pids more (get_or es left d).program (Some (get_or es left d).pid)
    → (program : ℕ) → get nat_cmp more program ≡ pid_in program (drop left es)
pid_put es left kept d pids more lt one so_far put program =
    let e = get_or es left d in
    put.0 program
    ∙ ap₂ (λ (b : Bool) (o : Option ℕ). if b then Some e.pid else o) (at_key e.program program)
    (so_far program ∙ ap (λ (n : ℕ). pid_in program (drop n es)) one)
    ∙ ap (pid_in program) (sym (drop_more es left d lt))
