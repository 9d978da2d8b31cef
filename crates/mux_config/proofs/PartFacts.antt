-- A component more, among those of a service.
use Rattle.std.proofs.Common.{◌≡◌, ℕ, ◌==◌, Bool, true, false, cond, List, [], ◌∷◌, ◌++◌, Some, None, sym, ap, ◌∙◌, subst, inl, inr, append-nil, ◌⊎◌}
use Rattle.std.specs.List.{cons_option}
use Rattle.std.proofs.lemmas.Bool.{cases_Bool, eqb-true}
use Rattle.guide_model.specs.declared.stream.Component.{Component}
use Rattle.mux_lines.specs.declared.record.Record.TheVariants.{Part}
use Rattle.mux_lines.specs.declared.record.Numbered.{Numbered}
use Rattle.mux_config.specs.Descriptions.{numbered, part_in}
use Rattle.mux_config.proofs.FineRecords.{parts_in}
use Rattle.mux_config.proofs.RecordFacts.{all_more}

pub said_here : (P : Component → Type 0) (b : Bool) (d c : Component) → P d → cond b (Some d) None ≡ Some c → P c
said_here P true d c h e = (let same : d ≡ c = cc e in subst P same h)
said_here P false d c h e = cc e

-- a component, among those of a service
parts_split : (rs : List Numbered) (line home : ℕ) (c : Component) (id : ℕ)
    → ((home ≡ id) × (parts_in id (rs ++ numbered line (Part home c) ∷ []) ≡ parts_in id rs ++ c ∷ [])) ⊎ (((home == id) ≡ false) × (parts_in id (rs ++ numbered line (Part home c) ∷ []) ≡ parts_in id rs))
parts_split rs line home c id =
    let more = all_more (part_in id) rs (numbered line (Part home c)) in
    elim (cases_Bool (home == id)) [
      | inl e ↦ inl (eqb-true home id e, more ∙ ap (λ b. parts_in id rs ++ cons_option (cond b (Some c) None) []) e)
      | inr e ↦ inr (e, more ∙ ap (λ b. parts_in id rs ++ cons_option (cond b (Some c) None) []) e ∙ append-nil (parts_in id rs))
    ]

-- what holds of a service's components and of one more holds of them with it
pub parts_with : (P : List Component → Type 0) (rs : List Numbered) (line home : ℕ) (c : Component) (id : ℕ) → (home ≡ id → P (parts_in id rs ++ c ∷ [])) → P (parts_in id rs) → P (parts_in id (rs ++ numbered line (Part home c) ∷ []))
parts_with P rs line home c id more kept = elim (parts_split rs line home c id) [
  | inl (same, e) ↦ subst P (sym e) (more same)
  | inr (other, e) ↦ subst P (sym e) kept
]
