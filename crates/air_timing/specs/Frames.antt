-- A body sent in frames, each with a lead in front (TR 101 290, 5.2 and 5.3: how often tables are
-- to be sent).
use Rattle.std.specs.Prelude.{◌≡◌, ℕ, zero, suc, ◌+◌, ◌*◌, ◌<◌, ◌≤◌, List, [], ◌∷◌, ◌++◌, Bool, if◌then◌else◌, nat_lt, length, flat_map}
use Rattle.std.specs.List.{AllByRecursion}
use Rattle.ts_packets.specs.Packets.{packets_of}
use Rattle.air_model.specs.Cutting.{packets_in}
use Rattle.air_model.specs.Packing.{packets_so_far}
use Rattle.air_timing.specs.Pacing.{Timed, Place, first_of, last_of, paced_one, paced_all, HaveBytes, IsNear}

-- What frames are made by: the sections that stand in front of frame j, the packets of a frame, and
-- how many frames of a lead alone follow frame j, where a body ends in it.
pub record Framed : Type 0 where
  pub timed : Timed
  pub lead : ℕ → List ℕ
  pub span : ℕ
  pub more : ℕ → ℕ

-- a frame: its number, the place at which it begins, and the sections of the body in it
pub record Frame : Type 0 where
  pub number : ℕ
  pub place : Place
  pub part : List ℕ

-- the packet in which these sections begin, from a place on
abbrev pub start_of : Timed → Place → List ℕ → ℕ
start_of t p [] = packets_so_far p.packing
start_of t p (x ∷ xs) = first_of t p x

-- the packet in which frame j begins, from a place on
abbrev pub begin_at : Framed → Place → ℕ → ℕ
begin_at f p j = start_of f.timed p (f.lead j)

abbrev pub begin_of : Framed → Frame → ℕ
begin_of f frame = begin_at f frame.place frame.number

-- the sections of a frame
abbrev pub sections_of : Framed → Frame → List ℕ
sections_of f frame = f.lead frame.number ++ frame.part

-- the place after a frame
abbrev pub place_after : Framed → Frame → Place
place_after f frame = paced_all f.timed frame.place (sections_of f frame)

-- what is still to come of a body: the rest of the frame at hand, and the frames after it
pub record Rest : Type 0 where
  pub part : List ℕ
  pub frames : List Frame

-- a section more in the frame at hand,
abbrev pub in_part : ℕ → Rest → Rest
in_part x r = record { part = x ∷ r.part; frames = r.frames }

-- and a section more at the front of a new frame j, which begins at place p
abbrev pub in_next : ℕ → Place → ℕ → Rest → Rest
in_next j p x r = record {
  part = [];
  frames = record { number = j; place = p; part = x ∷ r.part } ∷ r.frames;
}

-- The frame at hand is over with packet `end`. A section that would have its last byte there or
-- later does not fit.
abbrev pub fits : Framed → ℕ → Place → ℕ → Bool
fits f end p x = nat_lt (last_of f.timed p x) end

-- the packet with which frame j is over that begins at a place, and the place after its lead
abbrev pub end_at : Framed → Place → ℕ → ℕ
end_at f p j = begin_at f p j + f.span

abbrev pub led_at : Framed → Place → ℕ → Place
led_at f p j = paced_all f.timed p (f.lead j)

-- so many frames of a lead alone, from number j on, from a place on
abbrev pub bare : Framed → ℕ → ℕ → Place → List Frame
bare f zero j p = []
bare f (suc k) j p =
    record { number = j; place = p; part = [] } ∷ bare f k (suc j) (led_at f p j)

-- The rest of a body, where the air has come to place p in frame j. A section that does not fit
-- begins a new frame: it is sent after the lead of that frame, wherever it ends.
abbrev pub rest_from : Framed → ℕ → ℕ → Place → List ℕ → Rest
rest_from f j end p [] = record { part = []; frames = bare f (f.more j) (suc j) p }
rest_from f j end p (x ∷ xs) =
    if fits f end p x then in_part x (rest_from f j end (paced_one f.timed p x) xs)
    else in_next (suc j) p x (
    rest_from f (suc j) (end_at f p (suc j)) (paced_one f.timed (led_at f p (suc j)) x) xs
    )

-- a body in frames from number j on, from a place on
abbrev pub with_rest : ℕ → Place → Rest → List Frame
with_rest j p r = record { number = j; place = p; part = r.part } ∷ r.frames

abbrev pub frames_of : Framed → ℕ → Place → List ℕ → List Frame
frames_of f j p body = with_rest j p (rest_from f j (end_at f p j) (led_at f p j) body)

abbrev pub order_of : Framed → List Frame → List ℕ
order_of f frames = flat_map (sections_of f) frames

-- ---- laws

-- numbers j, j + 1, .., each frame at the place after the one before
abbrev pub Follow : Framed → ℕ → Place → List Frame → Type 0
Follow f j p [] = Unit {0}
Follow f j p (frame ∷ frames) =
    (frame.number ≡ j) × (frame.place ≡ p) × Follow f (suc j) (place_after f frame) frames

pub record AreWhole (f : Framed) (j : ℕ) (p : Place) (body : List ℕ) : Type 0 where
  pub body_is : flat_map (λ (frame : Frame). frame.part) (frames_of f j p body) ≡ body
  pub follow : Follow f j p (frames_of f j p body)

abbrev pub FramesAreWhole : Type 0
FramesAreWhole = (f : Framed) (j : ℕ) (p : Place) (body : List ℕ) → AreWhole f j p body

-- where a lead has `most` sections at most, and `more` leads at most follow the last frame of a body:
-- all frames have so many sections at most
abbrev pub FramesAreShort : Type 0
FramesAreShort =
    (f : Framed) (most more : ℕ) → ((j : ℕ) → length (f.lead j) ≤ most)
    → ((j : ℕ) → f.more j ≤ more) → (j : ℕ) (p : Place) (body : List ℕ)
    → length (order_of f (frames_of f j p body)) ≤ length body + (1 + length body + more) * most

-- ---- how far apart

-- a section is of another sub-table than each of these
abbrev pub IsOther : Timed → ℕ → List ℕ → Type 0
IsOther t x xs = AllByRecursion (λ (y : ℕ). t.table y ≡ t.table x → Prim.⊥) xs

-- no two of these are of one sub-table
abbrev pub AreOthers : Timed → List ℕ → Type 0
AreOthers t [] = Unit {0}
AreOthers t (x ∷ xs) = IsOther t x xs × AreOthers t xs

-- the packets of these sections, each counted alone
abbrev pub packets : Timed → List ℕ → ℕ
packets t xs = packets_in (λ i. packets_of (t.len i)) xs

-- a section has 1 to 4096 bytes
abbrev pub AreSized : Timed → List ℕ → Type 0
AreSized t xs = AllByRecursion (λ (i : ℕ). (0 < t.len i) × (t.len i ≤ 4096)) xs

-- Each lead has no two sections of one sub-table, and `most` packets at most. A frame has room for
-- two gaps, its lead and a section.
pub record HasRoom (f : Framed) (most : ℕ) (body : List ℕ) : Type 0 where
  pub others : (j : ℕ) → AreOthers f.timed (f.lead j)
  pub few : (j : ℕ) → packets f.timed (f.lead j) ≤ most
  pub some : (j : ℕ) → HaveBytes f.timed (f.lead j)
  pub sizes : AreSized f.timed body
  pub room : most + 2 * f.timed.gap + 26 ≤ f.span

-- each frame ends before its span is over,
abbrev pub EndInTime : Framed → List Frame → Type 0
EndInTime f frames =
    AllByRecursion (λ (frame : Frame).
    packets_so_far (place_after f frame).packing ≤ begin_of f frame + f.span) frames

-- so from one frame to the next there are at most its span and a gap
abbrev pub AreNear : Framed → List Frame → Type 0
AreNear f [] = Unit {0}
AreNear f (a ∷ []) = Unit {0}
AreNear f (a ∷ b ∷ frames) =
    (begin_of f b ≤ begin_of f a + f.span + f.timed.gap) × AreNear f (b ∷ frames)

-- A section of a lead begins in the packet in which the lead begins or later, and at most so many
-- packets later: one, a gap, and the packets before it in the lead.
pub record LeadInTime (t : Timed) (p : Place) (lead front : List ℕ) (x : ℕ) : Type 0 where
  pub least : start_of t p lead ≤ first_of t (paced_all t p front) x
  pub most : first_of t (paced_all t p front) x ≤ start_of t p lead + 1 + t.gap + packets t front

abbrev pub LeadsInTime : Framed → List Frame → Type 0
LeadsInTime f frames =
    AllByRecursion (λ (frame : Frame).
    (front : List ℕ) (x : ℕ) (rest : List ℕ) → f.lead frame.number ≡ front ++ x ∷ rest
    → LeadInTime f.timed frame.place (f.lead frame.number) front x) frames

pub record AreInTime (f : Framed) (frames : List Frame) : Type 0 where
  pub end : EndInTime f frames
  pub near : AreNear f frames
  pub leads : LeadsInTime f frames

abbrev pub FramesAreNear : Type 0
FramesAreNear =
    (f : Framed) (most : ℕ) (j : ℕ) (p : Place) (body : List ℕ) → HasRoom f most body
    → IsNear f.timed p → AreInTime f (frames_of f j p body)

-- ---- how often

-- the packet in which a section of a frame's lead begins, after the sections `front` of the lead
abbrev pub lead_first : Framed → Frame → List ℕ → ℕ → ℕ
lead_first f frame front x = first_of f.timed (paced_all f.timed frame.place front) x

-- A section x stands in the leads of two frames of a body, `between` lies between these frames, and
-- `front` and `front_b` are the sections before x in its leads.
pub record Repeats (f : Framed) (frames between : List Frame) (a b : Frame) (front front_b : List ℕ)
    (x : ℕ) : Type 0 where
  pub before : List Frame
  pub after : List Frame
  pub are : frames ≡ before ++ a ∷ (between ++ b ∷ after)
  pub rest : List ℕ
  pub rest_b : List ℕ
  pub at_a : f.lead a.number ≡ front ++ x ∷ rest
  pub at_b : f.lead b.number ≡ front_b ++ x ∷ rest_b

-- From the one to the other there are at most as many spans and gaps as frames begin, and one
-- packet, a gap, and the packets before x in its lead.
abbrev pub LeadsRepeat : Type 0
LeadsRepeat =
    (f : Framed) (most : ℕ) (j : ℕ) (p : Place) (body : List ℕ) → HasRoom f most body
    → IsNear f.timed p
    → (between : List Frame) (a b : Frame) (front front_b : List ℕ) (x : ℕ)
    → Repeats f (frames_of f j p body) between a b front front_b x
    → lead_first f b front_b x
    ≤ lead_first f a front x + (1 + length between) * (f.span + f.timed.gap) + 1 + f.timed.gap
    + packets f.timed front_b
