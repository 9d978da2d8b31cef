-- The jobs of the feeds: run, and taken back.
use Rattle.std.proofs.Common.{◌≡◌, ℕ, zero, suc, ◌+◌, ◌<◌, arith, List, [], ◌∷◌, ◌++◌, inl, inr, length, take, drop, refl, sym, ap, ◌∙◌, subst, append_assoc}
use Rattle.std.specs.Prelude.{Option, None, slice_index_or}
use Rattle.std.specs.List.{AllZip}
use Rattle.std.proofs.Math.Seq.{take-append_seam}
use Rattle.si_causes.specs.Reading.{Reading}
use Rattle.journal_model.specs.declared.step.Entry.{Entry}
use Rattle.turn_lock.specs.declared.known.Caller.{Caller}
use Rattle.turn_lock.specs.Knowledge.{HasAny, TableId, joined}
use Rattle.desk_hall.specs.Turn.{View}
use Rattle.headend_jobs.specs.declared.jobs.FeedJob.{FeedJob}
use Rattle.headend_jobs.specs.declared.live.LiveStop.{LiveStop}
use Rattle.headend_jobs.specs.Jobs.{callers_of, lines_of, stops_of}
use Rattle.headend_jobs.specs.Stops.{feeds_stop, or_feed}
use Rattle.headend_jobs.specs.Crews.{AreBack}

-- place by place
pub zip_of : {A : Type 0} (R : A → A → Type 0) (xs ys : List A) → length ys ≡ length xs → ((i : ℕ) (d : A) → i < length xs → R (slice_index_or xs i d) (slice_index_or ys i d)) → AllZip R xs ys
zip_of R [] [] n f = tt
zip_of R [] (y ∷ ys) n f = absurd (omega arith)
zip_of R (x ∷ xs) [] n f = absurd (omega arith)
zip_of R (x ∷ xs) (y ∷ ys) n f = (f zero x (omega arith), zip_of R xs ys (omega arith) (λ i d lt. f (suc i) d (omega arith)))

-- what a Vec has after a call that wrote through its slice
pub written_back : {A : Type 0} (n : ℕ) (xs ys zs : List A) → n ≡ length xs → length ys ≡ length zs → zs ≡ xs → take n (ys ++ drop (length ys) xs) ≡ ys
written_back {A = A} n xs ys zs e f g = ap (λ (m : ℕ). take m (ys ++ drop (length ys) xs)) (e ∙ sym (f ∙ ap length g)) ∙ take-append_seam ys (drop (length ys) xs)

pub empty_by : {A : Type 0} (xs : List A) → length xs ≡ 0 → xs ≡ []
empty_by [] e = refl
empty_by (x ∷ xs) e = absurd (omega (arith, e))

-- The jobs that are left have ended, and their stops come after the first one.
pub record AreLeft {S : Type 0} (t : TableId) (all left : List (FeedJob S)) (first : Option LiveStop) : Type 0 where
  pub number : ℕ
  pub back : AreBack t number left
  pub stop : feeds_stop first number (stops_of left) ≡ feeds_stop None 1 (stops_of all)

module _ {S : Type 0} (left rest : List (FeedJob S)) (job : FeedJob S) (is : left ≡ job ∷ rest) where
  -- the first of them is taken back: its pass ..
  pub alone : (t : TableId) (all : List (FeedJob S)) (first : Option LiveStop) → AreLeft t all left first → (job.pass.turns ≡ t) × (job.pass.finished ≡ [])
  alone t all first l = let (one, more) = subst (AreBack {S = S} t l.number) is l.back in (one.lone.turns_are, one.lone.alone)

  pub taken_in : (v w : View) (callers : List (Caller Entry)) → w ≡ joined v job.pass → job.pass.finished ≡ [] → v.finished ++ callers_of left ≡ callers → w.finished ++ callers_of rest ≡ callers
  taken_in v w callers join none all =
      ap (λ (z : View). z.finished ++ callers_of rest) join
      ∙ ap (λ (l : List (Caller Entry)). (v.finished ++ job.pass.own ∷ l) ++ callers_of rest) none
      ∙ append_assoc v.finished (job.pass.own ∷ []) (callers_of rest)
      ∙ ap (λ (l : List (FeedJob S)). v.finished ++ callers_of l) (sym is)
      ∙ all

  -- .. its reader ..
  pub handed_back : (old new readers : List (Reading S)) → new ≡ old ++ job.lines ∷ [] → old ++ lines_of left ≡ readers → new ++ lines_of rest ≡ readers
  handed_back old new readers put all =
      ap (λ (l : List (Reading S)). l ++ lines_of rest) put
      ∙ append_assoc old (job.lines ∷ []) (lines_of rest)
      ∙ ap (λ (l : List (FeedJob S)). old ++ lines_of l) (sym is)
      ∙ all

  -- .. and its stop
  pub left_more : (t : TableId) (all : List (FeedJob S)) (first next : Option LiveStop) → next ≡ or_feed first job.feed job.stop → AreLeft t all left first → AreLeft t all rest next
  left_more t all first next stop l =
      let (one, more) = subst (AreBack {S = S} t l.number) is l.back in
      record {
        number = l.number + 1;
        back = more;
        stop = ap (λ (o : Option LiveStop). feeds_stop o (l.number + 1) (stops_of rest)) (stop ∙ ap (λ (n : ℕ). or_feed first n job.stop) one.feed)
            ∙ ap (λ (jobs : List (FeedJob S)). feeds_stop first l.number (stops_of jobs)) (sym is)
            ∙ l.stop;
      }

-- ---- all passes together

-- the player's pass and then the feeds', taken in by a pass that had taken none
pub finished_is : (pass player j v : View) (feeds : List (Caller Entry)) → j ≡ joined pass player → v.finished ≡ j.finished ++ feeds → pass.finished ≡ [] → player.finished ≡ [] → v.finished ≡ player.own ∷ feeds
finished_is pass player j v feeds is f none alone =
    f ∙ ap (λ (l : List (Caller Entry)). l ++ feeds) (
    ap (λ (z : View). z.finished) is ∙ ap (λ (l : List (Caller Entry)). l ++ player.own ∷ player.finished) none ∙ ap (λ (l : List (Caller Entry)). player.own ∷ l) alone)

pub has_same : (a b : Caller Entry) (xs ys : List (Caller Entry)) (k : ℕ) → b.low ≡ a.low → b.span ≡ a.span → ys ≡ xs → HasAny (a ∷ xs) k → HasAny (b ∷ ys) k
has_same a b xs ys k low span same (inl h) = inl (omega (arith, h.0, low), omega (arith, h.1, low, span))
has_same a b xs ys k low span same (inr h) = inr (subst (λ (l : List (Caller Entry)). HasAny l k) (sym same) h)
