-- Sound descriptors: their bodies, and their tags.
use Rattle.std.proofs.Common.{◌≡◌, ℕ, ◌+◌, ◌≤◌, Bool, true, false, not, ◌&&◌, ◌||◌, List, [], ◌∷◌, length, refl, sym, ◌∙◌, ap, arith, le-leb}
use Rattle.std.specs.Prelude.{◌==◌, nat_le}
use Rattle.std.specs.List.{AllByRecursion, list_any}
use Rattle.std.proofs.lemmas.List.Sums.{sum_by-cons}
use Rattle.std.proofs.lemmas.Bool.{and_parts, eqb-true, leb-true, not-false, not-true, or_parts}
use Rattle.si_lists.proofs.Lists.{all_map}
use Rattle.guide_model.specs.declared.descriptor.RawDesc.{RawDesc}
use Rattle.guide_model.specs.Descriptors.{AreSoundDescriptors, FitsDescriptor, IsSoundDescriptor, descriptors_size, is_among, is_free}

-- each body of sound descriptors fits its length
pub bodies_fit : (made : List ℕ) (ds : List RawDesc) → AreSoundDescriptors made ds → AllByRecursion FitsDescriptor ds
bodies_fit made ds sound = all_map (IsSoundDescriptor made) FitsDescriptor (λ d fits. omega (arith, fits.body)) ds sound

-- how many bytes there are with one more
pub size_more : (d : RawDesc) (ds : List RawDesc) → descriptors_size (d ∷ ds) ≡ 2 + length d.body + descriptors_size ds
size_more d ds = sum_by-cons (λ (d : RawDesc). 2 + length d.body) d ds

-- and so does each body of a few bytes
pub small_fit : (ds : List RawDesc) → descriptors_size ds ≤ 240 → AllByRecursion FitsDescriptor ds
small_fit [] h = tt
small_fit (d ∷ ds) h = let size = size_more d ds in (omega (arith, h, size), small_fit ds (omega (arith, h, size)))

-- where none has a tag that is not free, each is sound
pub all_sound : (made : List ℕ) (ds : List RawDesc) → AllByRecursion FitsDescriptor ds → list_any (λ d. not (is_free made d.tag)) ds ≡ false
    → AreSoundDescriptors made ds
all_sound made [] fits h = tt
all_sound made (d ∷ ds) fits h =
    let parts = or_parts (not (is_free made d.tag)) (list_any (λ d. not (is_free made d.tag)) ds) h in
    let free = and_parts (nat_le 2 d.tag && nat_le d.tag 254) (not (is_among made d.tag)) (not-false (is_free made d.tag) parts.0) in
    let tag = and_parts (nat_le 2 d.tag) (nat_le d.tag 254) free.0 in (
      record {
        tag = (leb-true 2 d.tag tag.0, leb-true d.tag 254 tag.1);
        free = not-true (is_among made d.tag) free.1;
        body = omega (arith, fits.0);
      },
      all_sound made ds fits.1 parts.1,
    )

-- a sound descriptor has none of the tags that are made
pub no_made : (made : List ℕ) (d : RawDesc) (tag : ℕ) → IsSoundDescriptor made d → is_among made tag ≡ true → (d.tag == tag) ≡ false
no_made made d tag sound is = go (d.tag == tag) refl
  where
    go : (b : Bool) → (d.tag == tag) ≡ b → b ≡ false
    go false e = refl
    go true e = absurd (let both : true ≡ false = sym is ∙ ap (is_among made) (sym (eqb-true d.tag tag e)) ∙ sound.free in cc)

-- and so no descriptor of a list
pub none_made : (made : List ℕ) (tag : ℕ) → is_among made tag ≡ true → (ds : List RawDesc) → AreSoundDescriptors made ds
    → AllByRecursion (λ (d : RawDesc). (d.tag == tag) ≡ false) ds
none_made made tag is ds sound = all_map (IsSoundDescriptor made) (λ (d : RawDesc). (d.tag == tag) ≡ false) (λ d one. no_made made d tag one is) ds sound

-- where each is sound, none has a tag that is not free
pub none_outside : (made : List ℕ) (ds : List RawDesc) → AreSoundDescriptors made ds → list_any (λ d. not (is_free made d.tag)) ds ≡ false
none_outside made [] sound = refl
none_outside made (d ∷ ds) sound =
    let low : nat_le 2 d.tag ≡ true = le-leb 2 d.tag sound.0.tag.0 in
    let high : nat_le d.tag 254 ≡ true = le-leb d.tag 254 sound.0.tag.1 in
    rw (low, high, sound.0.free, none_outside made ds sound.1) refl
