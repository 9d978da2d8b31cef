use Rattle.std.proofs.Common.{◌≡◌, List, ℕ, [], ◌∷◌, ◌++◌, Result, length, refl, sym, ap, ◌∙◌, subst₂, arith, if◌then◌else◌, is_ok}
use Rattle.air_model.specs.Air.{Sent}
use Rattle.air_model.specs.declared.placed.Placed.{Placed}
use Rattle.air_model.specs.Laying.{AreLaid}
use Rattle.air_model.proofs.Laid.{AreLaid-push}
use Rattle.air_model.proofs.laying.lay_bytes.Goals as goal

pub returns-clause-laid : goal.returns-clause-laid
returns-clause-laid c ss h =
    let section = c.args.section.now in
    let sent : Sent = record { pid = 0x14; bytes = section } in
    let place : Placed = record { pid = 0x14; start = c.len-start.result; len = length section } in
    let pushed : c.push.new.self.items ≡ c.args.placed.now.items ++ place ∷ [] =
    c.push.ensures.items ∙ ap (λ (r : Result _ _). if is_ok r then c.args.placed.now.items ++ place ∷ [] else c.args.placed.now.items) c.unwrap.ensures in
    let start : c.len-start.result ≡ length c.args.bytes.now.items = omega (arith, c.len-start.ensures, c.args.bytes.now.ok.0) in
    subst₂ (λ (b : List ℕ) (l : List Placed). AreLaid (ss ++ sent ∷ []) b l) (sym c.put.ensures.items) (sym pushed)
    (AreLaid-push ss sent c.args.bytes.now.items c.args.placed.now.items c.len-start.result (length section) h start refl)
