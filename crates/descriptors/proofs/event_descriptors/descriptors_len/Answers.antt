use Rattle.std.proofs.Common.{ℕ, ◌≡◌, ◌+◌, ap, ap₂, sym, ◌∙◌, length, length-append}
use Rattle.guide_model.specs.Descriptors.{descriptors_size}
use Rattle.descriptors.specs.Descriptors.{descriptors_bytes}
use Rattle.descriptors.specs.EventDescriptors.{made_descriptors}
use Rattle.descriptors.proofs.Loops.{length-descriptors_bytes}
use Rattle.descriptors.proofs.event_descriptors.descriptors_len.Goals as goal

pub returns-clause-size : goal.returns-clause-size
returns-clause-size c =
    let e = c.args.event.now in
    let further : c.descriptors_len.result ≡ length (descriptors_bytes e.descriptors) =
    c.descriptors_len.ensures ∙ ap descriptors_size c.as_slice.ensures ∙ sym (length-descriptors_bytes e.descriptors) in
    ap₂ (λ (a b : ℕ). a + b) c.made_len.ensures.size further ∙ sym (length-append (made_descriptors e) (descriptors_bytes e.descriptors))
