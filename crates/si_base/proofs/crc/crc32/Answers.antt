use Rattle.std.proofs.Common.{refl, sym, ap, ◌∙◌, take, drop}
use Rattle.si_base.specs.Crc.{crc_from, crc_of}
use Rattle.si_base.proofs.Linear.{crc_from-append}
use Rattle.std.proofs.lemmas.List.{take-append-drop}
use Rattle.si_base.proofs.crc.crc32.Goals as goal

pub loop-rest-init : goal.loop-rest-init
unfolding crc_of
loop-rest-init c = refl

pub loop-rest-preserved : goal.loop-rest-preserved
loop-rest-preserved c = let rest = c.loop-rest.rest.now in
    ap (λ n. crc_from n c.split_at.result.1.now) (c.eight-crc.ensures ∙ ap (crc_from c.loop-rest.crc) c.split_at.ensures.front)
    ∙ ap (crc_from (crc_from c.loop-rest.crc (take 8 rest))) c.split_at.ensures.back
    ∙ sym (crc_from-append c.loop-rest.crc (take 8 rest) (drop 8 rest))
    ∙ ap (crc_from c.loop-rest.crc) (take-append-drop 8 rest)
    ∙ c.loop-rest.invariant
