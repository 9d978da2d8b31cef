-- Lists of descriptors: how many bytes they have, and that bytes are the descriptors of one list at most.
use Rattle.std.proofs.Common.{◌≡◌, ℕ, ◌+◌, ◌<◌, ◌≤◌, List, [], ◌∷◌, ◌++◌, length, get_or, sum_by, refl, sym, ap, ◌∙◌, append_assoc, arith, length-append}
use Rattle.std.specs.List.{flat_map}
use Rattle.std.proofs.lemmas.List.{append-nil}
use Rattle.std.proofs.lemmas.List.Concat.{length-flat_map}
use Rattle.si_lists.proofs.Lists.{same_parts}
use Rattle.guide_model.specs.declared.descriptor.RawDesc.{RawDesc}
use Rattle.guide_model.specs.Descriptors.{descriptors_size}
use Rattle.descriptors.specs.Descriptors.{descriptor_bytes, descriptors_bytes, AreDescriptors, DescriptorsAreUnique}

length-descriptor_bytes : (d : RawDesc) → length (descriptor_bytes d) ≡ 2 + length d.body
length-descriptor_bytes d = omega arith

pub length-descriptors_bytes : (ds : List RawDesc) → length (descriptors_bytes ds) ≡ descriptors_size ds
length-descriptors_bytes ds = length-flat_map descriptor_bytes ds ∙ (λ i. sum_by (λ (d : RawDesc). length-descriptor_bytes d i) ds)

same_desc : (a b : RawDesc) → a.tag ≡ b.tag → a.body ≡ b.body → a ≡ b
same_desc a b t e = ap (λ n. record { tag = n; body = a.body }) t ∙ ap (λ xs. record { tag = b.tag; body = xs }) e

-- where the first descriptors of bytes are known, each list that the bytes are begins with them
pub same_front : (front descs : List RawDesc) (rest : List ℕ) → flat_map descriptor_bytes front ++ rest ≡ flat_map descriptor_bytes descs
    → (tail : List RawDesc) × (rest ≡ flat_map descriptor_bytes tail) × (descs ≡ front ++ tail)
same_front [] descs rest e = (descs, e, refl)
same_front (f ∷ front) [] rest e = absurd (cc)
same_front (f ∷ front) (d ∷ descs) rest e =
    let tags : f.tag ≡ d.tag = cc in
    let lengths : length f.body ≡ length d.body = cc in
    let bodies : (f.body ++ flat_map descriptor_bytes front) ++ rest ≡ d.body ++ flat_map descriptor_bytes descs = cc in
    let parts = same_parts f.body d.body (flat_map descriptor_bytes front ++ rest) (flat_map descriptor_bytes descs) lengths (sym (append_assoc f.body (flat_map descriptor_bytes front) rest) ∙ bodies) in
    let behind = same_front front descs rest parts.1 in
    (behind.0, behind.1, cc (same_desc f d tags parts.0, behind.2))

none_left : (tail : List RawDesc) → [] ≡ flat_map descriptor_bytes tail → tail ≡ []
none_left [] e = refl
none_left (d ∷ tail) e = absurd (cc)

pub descriptors-unique : DescriptorsAreUnique
descriptors-unique bytes a b p q =
    let s = same_front a b [] (append-nil (flat_map descriptor_bytes a) ∙ sym p.whole ∙ q.whole) in
    sym (s.2 ∙ ap (λ tail. a ++ tail) (none_left s.0 s.1) ∙ append-nil a)

-- ---- bytes that are no list of descriptors

runs_past : (rest : List ℕ) (tail : List RawDesc) → 2 ≤ length rest → length rest < 2 + get_or rest 1 0 → rest ≡ flat_map descriptor_bytes tail → ⊥
runs_past [] tail two short e = omega arith
runs_past (tag ∷ []) tail two short e = omega arith
runs_past (tag ∷ len ∷ behind) [] two short e = cc
runs_past (tag ∷ len ∷ behind) (d ∷ tail) two short e =
    let told : len ≡ length d.body = cc in
    let there : behind ≡ d.body ++ flat_map descriptor_bytes tail = cc in
    omega (arith, told, ap length there, length-append d.body (flat_map descriptor_bytes tail))

pub past_end : (bytes rest : List ℕ) (front descs : List RawDesc) → bytes ≡ flat_map descriptor_bytes front ++ rest → 2 ≤ length rest → length rest < 2 + get_or rest 1 0 → AreDescriptors bytes descs → ⊥
past_end bytes rest front descs so_far two short p =
    let s = same_front front descs rest (sym so_far ∙ p.whole) in
    runs_past rest s.0 two short s.1

one_byte : (rest : List ℕ) (tail : List RawDesc) → length rest ≡ 1 → rest ≡ flat_map descriptor_bytes tail → ⊥
one_byte rest [] one e = omega (arith, ap length e)
one_byte rest (d ∷ tail) one e = omega (arith, ap length e)

pub left_over : (bytes rest : List ℕ) (front descs : List RawDesc) → bytes ≡ flat_map descriptor_bytes front ++ rest → length rest ≡ 1 → AreDescriptors bytes descs → ⊥
left_over bytes rest front descs so_far one p =
    let s = same_front front descs rest (sym so_far ∙ p.whole) in
    one_byte rest s.0 one s.1
