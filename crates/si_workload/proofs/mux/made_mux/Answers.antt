use Rattle.std.proofs.Common.{◌≡◌, ◌++◌, ◌∷◌, [], List, ℕ, ap, sym, ◌∙◌, append_assoc, arith}
use Rattle.std.specs.Prelude.{codes, flat_map}
use Rattle.std.specs.List.{range_with_len}
use Rattle.si_lists.proofs.Lists.{range_more}
use Rattle.si_workload.specs.Texts.{service_line}
use Rattle.si_workload.proofs.mux.made_mux.Goals as goal

pub loop-i-preserved : goal.loop-i-preserved
loop-i-preserved c =
    let head = codes "network,40,Soak\nstream,1,1\n" in
    let so_far = flat_map service_line (range_with_len 0 c.loop-i.i) in
    record {
      within = omega (arith, c.loop-i-test.true);
      text = c.in_ok-put_service.ensures ∙ ap (λ (l : List ℕ). l ++ service_line c.loop-i.i) c.loop-i.invariant.text
          ∙ append_assoc head so_far (service_line c.loop-i.i) ∙ ap (λ (l : List ℕ). head ++ l) (sym (range_more service_line 0 c.loop-i.i c.loop-i.i (omega arith)));
    }

pub returns : goal.returns
returns c =
    let head = codes "network,40,Soak\nstream,1,1\n" in
    let all : c.loop-i.i ≡ 8 = omega (arith, c.loop-i.invariant.within, c.loop-i-test.false) in
    let so_far : c.loop-i.out.items ≡ head ++ flat_map service_line (range_with_len 0 8) =
    c.loop-i.invariant.text ∙ ap (λ (n : ℕ). head ++ flat_map service_line (range_with_len 0 n)) all in
    c.in_ok-extend_from_slice.ensures.items ∙ ap (λ (l : List ℕ). l ++ codes "start,1993-10-13T00:00:00Z\nend\n") so_far
    ∙ append_assoc head (flat_map service_line (range_with_len 0 8)) (codes "start,1993-10-13T00:00:00Z\nend\n")
