use Rattle.std.proofs.Common.{◌≡◌, ◌+◌, ◌*◌, ◌++◌, ℕ, List, sym, ap, ◌∙◌, arith, map}
use Rattle.std.specs.Prelude.{flat_map}
use Rattle.std.specs.List.{range_with_len}
use Rattle.std.proofs.lemmas.List.Concat.{flat_map-append}
use Rattle.std.proofs.lemmas.List.FromFn.{map-range_with_len_more}
use Rattle.std.proofs.Common.{append-nil, [], ◌∷◌}
use Rattle.si_workload.specs.Texts.{service_text}
use Rattle.si_workload.proofs.feed.made_feed.Goals as goal

pub loop-i-preserved : goal.loop-i-preserved
loop-i-preserved c =
    let f = service_text c.args.number in
    let id = λ (i : ℕ). 100 + c.args.feed + 2 * i in
    let i = c.loop-i.i in
    record {
      within = omega (arith, c.loop-i-test.true);
      text = c.in_ok-put_service.ensures ∙ ap (λ (k : ℕ). c.loop-i.out.items ++ f (100 + k + 2 * i)) c.from.ensures ∙ ap (λ (l : List ℕ). l ++ f (id i)) c.loop-i.invariant.text
          ∙ ap (λ (l : List ℕ). flat_map f (map id (range_with_len 0 i)) ++ l) (sym (append-nil (f (id i))))
          ∙ sym (flat_map-append f (map id (range_with_len 0 i)) (id i ∷ []))
          ∙ ap (flat_map f) (sym (map-range_with_len_more id 0 i i (omega arith)));
    }

pub returns : goal.returns
returns c =
    let all : c.loop-i.i ≡ 4 = omega (arith, c.loop-i.invariant.within, c.loop-i-test.false) in
    c.loop-i.invariant.text ∙ ap (λ (n : ℕ). flat_map (service_text c.args.number) (map (λ (i : ℕ). 100 + c.args.feed + 2 * i) (range_with_len 0 n))) all
