-- Frames of cycles as beats: where each begins, the number of its lead, and its timings.
use Rattle.std.proofs.Common.{◌≡◌, ℕ, zero, suc, ◌+◌, ◌-◌, ◌*◌, ◌<◌, ◌≤◌, ◌⊎◌, inl, inr, List, [], ◌∷◌, ◌++◌, length, refl, sym, ap, ap₂, ◌∙◌, subst, arith, append_assoc}
use Rattle.std.specs.Prelude.{flat_map}
use Rattle.std.specs.List.{AllByRecursion, Contains}
use Rattle.std.proofs.lemmas.List.Elements.{Contains-append_right}
use Rattle.std.proofs.Math.Nat.{mul-le-mul_right}
use Rattle.si_lists.proofs.Lists.{all_at}
use Rattle.si_lists.proofs.Parts.{lt_or}
use Rattle.air_model.proofs.Elements.{first_of, joined}
use Rattle.air_timing.specs.declared.timing.Timing.{Timing}
use Rattle.cycle_timing.specs.Again.{IsSoonAgain, AreSoonAgain}

pub record Beat : Type 0 where
  pub at : ℕ
  pub turn : ℕ
  pub part : List Timing

abbrev pub flat : List Beat → List Timing
flat beats = flat_map (λ (b : Beat). b.part) beats

-- each beat is at most a step after the one before, and the packets end at most a step after the last
abbrev pub AreClose : ℕ → ℕ → List Beat → Type 0
AreClose step end [] = Unit {0}
AreClose step end (b ∷ []) = end ≤ b.at + step
AreClose step end (b ∷ c ∷ beats) = (c.at ≤ b.at + step) × AreClose step end (c ∷ beats)

abbrev pub AreNumbered : ℕ → List Beat → Type 0
AreNumbered j [] = Unit {0}
AreNumbered j (b ∷ beats) = (b.turn ≡ j) × AreNumbered (suc j) beats

-- ---- the beat of a timing

pub record BeatOf (beats : List Beat) (after : List Timing) (one : Timing) : Type 0 where
  pub before : List Beat
  pub beat : Beat
  pub rest : List Beat
  pub are : beats ≡ before ++ beat ∷ rest
  pub front : List Timing
  pub behind : List Timing
  pub part : beat.part ≡ front ++ one ∷ behind
  pub after_is : after ≡ behind ++ flat rest

pub in_part : {X : Type 0} (part rest before after : List X) (one : X) → part ++ rest ≡ before ++ one ∷ after
    → ((behind : List X) × (part ≡ before ++ one ∷ behind) × (after ≡ behind ++ rest)) ⊎ ((more : List X) × (before ≡ part ++ more) × (rest ≡ more ++ one ∷ after))
in_part [] rest before after one e = inr (before, refl, e)
in_part (x ∷ part) rest [] after one e =
    let head : x ≡ one = cc in
    let tail : part ++ rest ≡ after = cc in
    inl (part, ap (λ t. t ∷ part) head, sym tail)
in_part {X} (x ∷ part) rest (y ∷ before) after one e =
    let head : x ≡ y = cc in
    let tail : part ++ rest ≡ before ++ one ∷ after = cc in
    go head (in_part part rest before after one tail)
  where
    go : x ≡ y → ((behind : List X) × (part ≡ before ++ one ∷ behind) × (after ≡ behind ++ rest)) ⊎ ((more : List X) × (before ≡ part ++ more) × (rest ≡ more ++ one ∷ after))
        → ((behind : List X) × (x ∷ part ≡ (y ∷ before) ++ one ∷ behind) × (after ≡ behind ++ rest)) ⊎ ((more : List X) × (y ∷ before ≡ (x ∷ part) ++ more) × (rest ≡ more ++ one ∷ after))
    go h (inl (behind, p, q)) = inl (behind, ap₂ (λ (t : X) (l : List X). t ∷ l) h p, q)
    go h (inr (more, p, q)) = inr (more, ap₂ (λ (t : X) (l : List X). t ∷ l) (sym h) p, q)

pub beat_of : (beats : List Beat) (before after : List Timing) (one : Timing) → flat beats ≡ before ++ one ∷ after → BeatOf beats after one
beat_of [] [] after one e = absurd (let b : Prim.⊥ = cc in b)
beat_of [] (x ∷ before) after one e = absurd (let b : Prim.⊥ = cc in b)
beat_of (b ∷ beats) before after one e = go (in_part b.part (flat beats) before after one e) (λ more f. beat_of beats more after one f)
  where
    go : ((behind : List Timing) × (b.part ≡ before ++ one ∷ behind) × (after ≡ behind ++ flat beats)) ⊎ ((more : List Timing) × (before ≡ b.part ++ more) × (flat beats ≡ more ++ one ∷ after))
        → ((more : List Timing) → flat beats ≡ more ++ one ∷ after → BeatOf beats after one) → BeatOf (b ∷ beats) after one
    go (inl (behind, p, q)) again = record { before = []; beat = b; rest = beats; are = refl; front = before; behind = behind; part = p; after_is = q }
    go (inr (more, p, q)) again =
        let r = again more q in
        record { before = b ∷ r.before; beat = r.beat; rest = r.rest; are = ap (λ (l : List Beat). b ∷ l) r.are; front = r.front; behind = r.behind; part = r.part; after_is = r.after_is }

-- ---- how far beats are apart

close_rest : (step end : ℕ) (b : Beat) (beats : List Beat) → AreClose step end (b ∷ beats) → AreClose step end beats
close_rest step end b [] h = tt
close_rest step end b (c ∷ beats) h = h.1

close_after : (step end : ℕ) (before beats : List Beat) → AreClose step end (before ++ beats) → AreClose step end beats
close_after step end [] beats h = h
close_after step end (b ∷ before) beats h = close_after step end before beats (close_rest step end b (before ++ beats) h)

numbered_after : (j : ℕ) (before beats : List Beat) → AreNumbered j (before ++ beats) → AreNumbered (j + length before) beats
numbered_after j [] beats h = subst (λ (n : ℕ). AreNumbered n beats) (let e : j ≡ j + 0 = omega arith in e) h
numbered_after j (b ∷ before) beats h = subst (λ (n : ℕ). AreNumbered n beats) (let e : suc j + length before ≡ j + suc (length before) = omega arith in e) (numbered_after (suc j) before beats h.1)

end_close : (step end : ℕ) (b : Beat) (beats : List Beat) → AreClose step end (b ∷ beats) → end ≤ b.at + (1 + length beats) * step
end_close step end b [] h = omega arith
end_close step end b (c ∷ beats) h =
    let n = h.0 in
    let r = end_close step end c beats h.1 in
    let e : (1 + suc (length beats)) * step ≡ step + (1 + length beats) * step = omega arith in
    omega arith

beat_close : (step end : ℕ) (b : Beat) (between : List Beat) (c : Beat) (beats : List Beat) → AreClose step end (b ∷ (between ++ c ∷ beats)) → c.at ≤ b.at + (1 + length between) * step
beat_close step end b [] c beats h = let n = h.0 in omega arith
beat_close step end b (d ∷ between) c beats h =
    let n = h.0 in
    let r = beat_close step end d between c beats h.1 in
    let e : (1 + suc (length between)) * step ≡ step + (1 + length between) * step = omega arith in
    omega arith

-- the beats of a cycle and of the one after it
pub close_append : (step end last : ℕ) (beats : List Beat) (c : Beat) (more : List Beat) → 0 < length beats → AreClose step end beats → c.at ≤ end → AreClose step last (c ∷ more) → AreClose step last (beats ++ c ∷ more)
close_append step end last [] c more some h l k = absurd (omega arith)
close_append step end last (b ∷ []) c more some h l k = (omega arith, k)
close_append step end last (b ∷ d ∷ beats) c more some h l k = (h.0, close_append step end last (d ∷ beats) c more (omega arith) h.1 l k)

pub close_less : (step end less : ℕ) (beats : List Beat) → less ≤ end → AreClose step end beats → AreClose step less beats
close_less step end less [] l h = tt
close_less step end less (b ∷ []) l h = omega arith
close_less step end less (b ∷ c ∷ beats) l h = (h.0, close_less step end less (c ∷ beats) l h.1)

pub numbered_append : (j : ℕ) (beats more : List Beat) → AreNumbered j beats → AreNumbered (j + length beats) more → AreNumbered j (beats ++ more)
numbered_append j [] more h k = subst (λ (n : ℕ). AreNumbered n more) (let e : j + 0 ≡ j = omega arith in e) k
numbered_append j (b ∷ beats) more h k = (h.0, numbered_append (suc j) beats more h.1 (subst (λ (n : ℕ). AreNumbered n more) (let e : j + suc (length beats) ≡ suc j + length beats = omega arith in e) k))

-- ---- again after some beats

pub cut_at : {X : Type 0} (n : ℕ) (xs : List X) → n < length xs → (before : List X) × (x : X) × (after : List X) × (xs ≡ before ++ x ∷ after) × (length before ≡ n)
cut_at n [] l = absurd (omega arith)
cut_at zero (x ∷ xs) l = ([], x, xs, refl, refl)
cut_at (suc n) (x ∷ xs) l = let r = cut_at n xs (omega arith) in (x ∷ r.0, r.1, r.2, ap (λ l. x ∷ l) r.3, ap suc r.4)

module _ (Is : ℕ → Type 0) (Has : ℕ → Type 0) (step apart ahead end : ℕ) where
  -- What is known of a beat: a timing of these sections is of its lead, and stands in its packets; so it
  -- has a turn then, and again `apart` beats later.
  pub record Plays (b : Beat) : Type 0 where
    pub least : (front behind : List Timing) (one : Timing) → b.part ≡ front ++ one ∷ behind → Is one.section → b.at ≤ one.first
    pub again : (front behind : List Timing) (one : Timing) → b.part ≡ front ++ one ∷ behind → Is one.section → Has (b.turn + apart)
    pub turn_plays : Has b.turn → (two : Timing) × Contains b.part two × Is two.section × (two.first ≤ b.at + ahead)

  pub soon_again : 0 < apart → (j : ℕ) (beats : List Beat) → AreClose step end beats → AreNumbered j beats → AllByRecursion Plays beats → AreSoonAgain Is (apart * step + ahead) end (flat beats)
  soon_again some j beats close numbered plays before after one e is = go (lt_or (apart - 1) (length o.rest))
    where
      o : BeatOf beats after one
      o = beat_of beats before after one e

      own : AreClose step end (o.beat ∷ o.rest)
      own = close_after step end o.before (o.beat ∷ o.rest) (subst (AreClose step end) o.are close)

      numbers : AreNumbered (j + length o.before) (o.beat ∷ o.rest)
      numbers = numbered_after j o.before (o.beat ∷ o.rest) (subst (AreNumbered j) o.are numbered)

      each : AllByRecursion Plays (o.before ++ o.beat ∷ o.rest)
      each = subst (AllByRecursion Plays) o.are plays

      here : Plays o.beat
      here = all_at Plays o.before o.beat o.rest each

      go : (apart - 1 < length o.rest) ⊎ (length o.rest ≤ apart - 1) → IsSoonAgain Is (apart * step + ahead) end one after
      go (inr few) =
          let least = here.least o.front o.behind one o.part is in
          let c = end_close step end o.beat o.rest own in
          let m : (1 + length o.rest) * step ≤ apart * step = mul-le-mul_right step (let h : 1 + length o.rest ≤ apart = omega arith in h) in
          inr (omega arith)
      go (inl enough) =
          let least = here.least o.front o.behind one o.part is in
          let c = cut_at (apart - 1) o.rest enough in
          let b : Beat = c.1 in
          let whole : o.before ++ o.beat ∷ o.rest ≡ (o.before ++ o.beat ∷ c.0) ++ b ∷ c.2 =
          ap (λ (l : List Beat). o.before ++ o.beat ∷ l) c.3 ∙ sym (append_assoc o.before (o.beat ∷ c.0) (b ∷ c.2)) in
          let far = beat_close step end o.beat c.0 b c.2 (subst (λ (l : List Beat). AreClose step end (o.beat ∷ l)) c.3 own) in
          let size : (1 + length c.0) * step ≡ apart * step = ap (λ (n : ℕ). n * step) (let s = c.4 in let h : 1 + length c.0 ≡ apart = omega arith in h) in
          let turn_after = numbered_after (suc (j + length o.before)) c.0 (b ∷ c.2) (subst (AreNumbered (suc (j + length o.before))) c.3 numbers.1) in
          let first = numbers.0 in
          let turn : o.beat.turn + apart ≡ b.turn = (let t = turn_after.0 in let s = c.4 in omega arith) in
          let has = subst Has turn (here.again o.front o.behind one o.part is) in
          let two = (all_at Plays (o.before ++ o.beat ∷ c.0) b c.2 (subst (AllByRecursion Plays) whole each)).turn_plays has in
          let in_rest : Contains (flat o.rest) two.0 = joined (λ (b : Beat). b.part) o.rest b two.0 (subst (λ (l : List Beat). Contains l b) (sym c.3) (Contains-append_right c.0 (b ∷ c.2) b (first_of b c.2))) two.1 in
          let there = two.3 in
          inl (two.0, subst (λ (l : List Timing). Contains l two.0) (sym o.after_is) (Contains-append_right o.behind (flat o.rest) two.0 in_rest), two.2, omega arith)
