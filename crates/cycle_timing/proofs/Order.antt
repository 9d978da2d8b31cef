-- The frames of a plan: a whole number of rounds, and all sections of the leads and of the body.
use Rattle.std.proofs.Common.{◌≡◌, ℕ, zero, suc, ◌+◌, ◌-◌, ◌*◌, ◌/◌, ◌%◌, ◌<◌, ◌⊎◌, inl, inr, List, [], ◌∷◌, ◌++◌, Bool, true, false, length, refl, sym, ap, ◌∙◌, subst, arith}
use Rattle.std.specs.Prelude.{if◌then◌else◌, flat_map}
use Rattle.std.specs.List.{AllByRecursion, Contains}
use Rattle.std.proofs.lemmas.Nat.{div-add-mod', mod_below, mod-mul-add}
use Rattle.std.proofs.lemmas.List.Elements.{Contains-append_left, Contains-append_right, Contains-append_cases}
use Rattle.si_lists.proofs.Lists.{all_append}
use Rattle.air_model.proofs.Elements.{first_of, joined}
use Rattle.air_timing.specs.Pacing.{Place, paced_one}
use Rattle.air_timing.specs.Frames.{Framed, Frame, Rest, bare, led_at, end_at, in_part, in_next, rest_from, fits, order_of, sections_of, place_after, Follow}
use Rattle.air_timing.proofs.Frames.{frames_are_whole}
use Rattle.air_timing.specs.Plan.{Planned, framed_of, lead_at, frames_in, order_in}
use Rattle.cycle_timing.proofs.PacedLeads.{all_or}

-- ---- whole rounds

pub record IsRounds (round n : ℕ) : Type 0 where
  pub many : ℕ
  pub some : 0 < many
  pub are : n ≡ many * round

length_bare : (f : Framed) (k j : ℕ) (p : Place) → length (bare f k j p) ≡ k
length_bare f zero j p = refl
length_bare f (suc k) j p = ap suc (length_bare f k (suc j) (led_at f p j))

rounds_rest : (f : Planned) → 0 < length f.leads → (j end : ℕ) (p : Place) (xs : List ℕ) → IsRounds (length f.leads) (suc j + length (rest_from (framed_of f) j end p xs).frames)
rounds_rest f some j end p [] =
    let n = length f.leads in
    let d = div-add-mod' j n in
    let m = mod_below j n some in
    let l = length_bare (framed_of f) (n - 1 - j % n) (suc j) p in
    let next : suc (j / n) * n ≡ n + j / n * n = omega arith in
    record { many = suc (j / n); some = omega arith; are = omega arith }
rounds_rest f some j end p (x ∷ xs) =
    go (fits F end p x) (rounds_rest f some j end (paced_one F.timed p x) xs) (rounds_rest f some (suc j) (end_at F p (suc j)) (paced_one F.timed (led_at F p (suc j)) x) xs)
  where
    F : Framed
    F = framed_of f

    one : Rest
    one = rest_from F j end (paced_one F.timed p x) xs

    two : Rest
    two = rest_from F (suc j) (end_at F p (suc j)) (paced_one F.timed (led_at F p (suc j)) x) xs

    go : (b : Bool) → IsRounds (length f.leads) (suc j + length one.frames) → IsRounds (length f.leads) (suc (suc j) + length two.frames)
        → IsRounds (length f.leads) (suc j + length (if b then in_part x one else in_next (suc j) p x two).frames)
    go true h k = h
    go false h k = record { many = k.many; some = k.some; are = (let a = k.are in let e : suc j + suc (length two.frames) ≡ suc (suc j) + length two.frames = omega arith in e ∙ a) }

-- a cycle has whole rounds of frames
pub rounds_in : (f : Planned) → 0 < length f.leads → (p : Place) → IsRounds (length f.leads) (length (frames_in f p))
rounds_in f some p =
    let F = framed_of f in
    let r = rounds_rest f some 0 (end_at F p 0) (led_at F p 0) f.body in
    record { many = r.many; some = r.some; are = (let a = r.are in omega arith) }

-- ---- frames by their numbers

pub record FrameAt (f : Framed) (frames : List Frame) (i n : ℕ) : Type 0 where
  pub before : List Frame
  pub frame : Frame
  pub after : List Frame
  pub are : frames ≡ before ++ frame ∷ after
  pub place : length before ≡ i
  pub number : frame.number ≡ n

pub frame_at : (f : Framed) (j : ℕ) (p : Place) (frames : List Frame) → Follow f j p frames → (i : ℕ) → i < length frames → FrameAt f frames i (j + i)
frame_at f j p [] h i l = absurd (omega arith)
frame_at f j p (frame ∷ frames) h zero l = record { before = []; frame = frame; after = frames; are = refl; place = refl; number = (let n = h.0 in omega arith) }
frame_at f j p (frame ∷ frames) h (suc i) l =
    let r = frame_at f (suc j) (place_after f frame) frames h.2 i (omega arith) in
    record { before = frame ∷ r.before; frame = r.frame; after = r.after; are = ap (λ (l : List Frame). frame ∷ l) r.are; place = ap suc r.place; number = (let n = r.number in omega arith) }

-- ---- what stands in the order

pub all_order : (P : ℕ → Type 0) (f : Framed) → ((j : ℕ) → AllByRecursion P (f.lead j)) → (frames : List Frame) → AllByRecursion P (flat_map (λ (frame : Frame). frame.part) frames)
    → AllByRecursion P (order_of f frames)
all_order P f leads [] h = tt
all_order P f leads (frame ∷ frames) h =
    all_append P (f.lead frame.number ++ frame.part) (order_of f frames)
    (all_append P (f.lead frame.number) frame.part (leads frame.number) (front frame.part (flat_map (λ (frame : Frame). frame.part) frames) h))
    (all_order P f leads frames (behind frame.part (flat_map (λ (frame : Frame). frame.part) frames) h))
  where
    front : (xs ys : List ℕ) → AllByRecursion P (xs ++ ys) → AllByRecursion P xs
    front [] ys h = tt
    front (x ∷ xs) ys h = (h.0, front xs ys h.1)

    behind : (xs ys : List ℕ) → AllByRecursion P (xs ++ ys) → AllByRecursion P ys
    behind [] ys h = h
    behind (x ∷ xs) ys h = behind xs ys h.1

pub all_in : (P : ℕ → Type 0) (f : Planned) → AllByRecursion (AllByRecursion P) f.leads → AllByRecursion P f.body → (p : Place) → AllByRecursion P (order_in f p)
all_in P f leads body p =
    all_order P (framed_of f) (λ j. all_or (AllByRecursion P) f.leads [] (j % length f.leads) leads tt) (frames_in f p)
    (subst (AllByRecursion P) (sym (frames_are_whole (framed_of f) 0 p f.body).body_is) body)

part_in : (f : Framed) (frames : List Frame) (x : ℕ) → Contains (flat_map (λ (frame : Frame). frame.part) frames) x → Contains (order_of f frames) x
part_in f [] x has = has
part_in f (frame ∷ frames) x has = go (Contains-append_cases frame.part (flat_map (λ (frame : Frame). frame.part) frames) x has) (part_in f frames x)
  where
    go : Contains frame.part x ⊎ Contains (flat_map (λ (frame : Frame). frame.part) frames) x → (Contains (flat_map (λ (frame : Frame). frame.part) frames) x → Contains (order_of f frames) x)
        → Contains (order_of f (frame ∷ frames)) x
    go (inl h) again = Contains-append_left (f.lead frame.number ++ frame.part) (order_of f frames) x (Contains-append_right (f.lead frame.number) frame.part x h)
    go (inr h) again = Contains-append_right (f.lead frame.number ++ frame.part) (order_of f frames) x (again h)

-- a section of the body,
pub body_in : (f : Planned) (p : Place) (x : ℕ) → Contains f.body x → Contains (order_in f p) x
body_in f p x has =
    part_in (framed_of f) (frames_in f p) x (subst (λ l. Contains l x) (sym (frames_are_whole (framed_of f) 0 p f.body).body_is) has)

-- and one of a lead
pub lead_in : (f : Planned) (p : Place) (i x : ℕ) → i < length f.leads → Contains (lead_at f.leads i) x → Contains (order_in f p) x
lead_in f p i x l has =
    let F = framed_of f in
    let n = length f.leads in
    let rounds = rounds_in f (omega arith) p in
    let at = frame_at F 0 p (frames_in f p) (frames_are_whole F 0 p f.body).follow i (enough rounds) in
    let number : at.frame.number % n ≡ i = ap (λ (k : ℕ). k % n) (at.number ∙ (let e : 0 + i ≡ 0 * n + i = omega arith in e)) ∙ mod-mul-add 0 n i l in
    let here : Contains (F.lead at.frame.number ++ at.frame.part) x =
    Contains-append_left (F.lead at.frame.number) at.frame.part x (subst (λ (k : ℕ). Contains (lead_at f.leads k) x) (sym number) has) in
    joined (sections_of F) (frames_in f p) at.frame x (subst (λ l. Contains l at.frame) (sym at.are) (Contains-append_right at.before (at.frame ∷ at.after) at.frame (first_of at.frame at.after))) here
  where
    enough : IsRounds (length f.leads) (length (frames_in f p)) → i < length (frames_in f p)
    enough r = more r.many r.some r.are
      where
        more : (many : ℕ) → 0 < many → length (frames_in f p) ≡ many * length f.leads → i < length (frames_in f p)
        more zero some are = absurd (omega arith)
        more (suc many) some are = let e : suc many * length f.leads ≡ length f.leads + many * length f.leads = omega arith in omega arith
