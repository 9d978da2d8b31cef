use Rattle.std.proofs.Common.{◌≡◌, ◌-◌, ℕ, List, [], ◌∷◌, ◌++◌, Result, length, sym, ap, ◌∙◌, subst₂, arith, length-append, if◌then◌else◌, is_ok}
use Rattle.section_codec.specs.Section.{section_bytes}
use Rattle.air_model.specs.Air.{Sent}
use Rattle.air_model.specs.declared.placed.Placed.{Placed}
use Rattle.air_model.specs.Laying.{AreLaid}
use Rattle.air_model.proofs.Laid.{AreLaid-push}
use Rattle.air_model.proofs.laying.lay_section.Goals as goal

pub returns-clause-laid : goal.returns-clause-laid
returns-clause-laid c ss h =
    let section = section_bytes c.args.header.now c.args.body.now in
    let sent : Sent = record { pid = c.args.pid; bytes = section } in
    let place : Placed = record { pid = c.args.pid; start = c.len-start.result; len = c.len.result - c.len-start.result } in
    let pushed : c.push.new.self.items ≡ c.args.placed.now.items ++ place ∷ [] =
    c.push.ensures.items ∙ ap (λ (r : Result _ _). if is_ok r then c.args.placed.now.items ++ place ∷ [] else c.args.placed.now.items) c.unwrap.ensures in
    let start : c.len-start.result ≡ length c.args.bytes.now.items = omega (arith, c.len-start.ensures, c.args.bytes.now.ok.0) in
    let len : c.len.result - c.len-start.result ≡ length section =
    omega (arith, start, c.len.ensures, c.put_section.new.out.ok.0, ap length c.put_section.ensures.items, length-append c.args.bytes.now.items section) in
    subst₂ (λ (b : List ℕ) (l : List Placed). AreLaid (ss ++ sent ∷ []) b l) (sym c.put_section.ensures.items) (sym pushed)
    (AreLaid-push ss sent c.args.bytes.now.items c.args.placed.now.items c.len-start.result (c.len.result - c.len-start.result) h start len)
