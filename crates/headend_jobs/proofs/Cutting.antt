-- The jobs of the feeds: cut off.
use Rattle.std.proofs.Common.{◌≡◌, ℕ, suc, ◌+◌, ◌-◌, arith, List, [], ◌∷◌, ◌++◌, length, length-append, refl, sym, ap, ◌∙◌, append-nil, append_assoc}
use Rattle.std.specs.Prelude.{None}
use Rattle.si_causes.specs.Reading.{Reading}
use Rattle.mux_model.specs.declared.mux.Mux.{Mux}
use Rattle.turn_lock.specs.Knowledge.{TableId, first_pass, lower_part, upper_part}
use Rattle.desk_hall.specs.Turn.{View}
use Rattle.headend_jobs.specs.declared.jobs.FeedJob.{FeedJob}
use Rattle.headend_jobs.specs.Jobs.{new_feeds, new_pass}

-- what is left of the pass, and the jobs of the readers after those that are left
abbrev pub Cut : {S : Type 0} → TableId → View → View → List (Reading S) → List (Reading S) → List (FeedJob S) → Type 0
Cut {S} t first now all left jobs =
    (mux : Mux) → first ≡ first_pass t (length all + 2) mux
    → (after : List (Reading S)) × (all ≡ left ++ after) × (now ≡ first_pass t (length left + 2) mux) × (jobs ≡ new_feeds t mux (length left + 1) after)

pub cut_none : {S : Type 0} (t : TableId) (first : View) (all : List (Reading S)) → Cut t first first all all []
cut_none t first all = λ mux is. ([], sym (append-nil all), is, refl)

pub cut_more : {S : Type 0} (t : TableId) (first now next : View) (all left rest : List (Reading S)) (jobs more : List (FeedJob S)) (reader : Reading S) (own : View) (feed : ℕ)
    → left ≡ rest ++ reader ∷ [] → next ≡ lower_part now 1 → own ≡ upper_part now 1 → feed ≡ length rest + 1 → more ≡ record { pass = own; feed = feed; lines = reader; stop = None } ∷ jobs
    → Cut t first now all left jobs → Cut t first next all rest more
cut_more {S = S} t first now next all left rest jobs more reader own feed is low up feed_is grown cut = λ mux first_is.
    let (after, parts, now_is, jobs_are) = cut mux first_is in
    let n : ℕ = length rest in
    let count : length left ≡ n + 1 = ap length is ∙ length-append rest (reader ∷ []) in
    let spans : (length left + 2) - 1 ≡ n + 2 = omega (arith, count) in
    let number : 0 + ((length left + 2) - 1) ≡ (n + 1) + 1 = omega (arith, count) in
    let pass : own ≡ new_pass t mux ((n + 1) + 1) = up ∙ ap (λ (z : View). upper_part z 1) now_is ∙ ap (λ (k : ℕ). new_pass t mux k) number in (
      reader ∷ after,
      parts ∙ ap (λ (l : List (Reading S)). l ++ after) is ∙ append_assoc rest (reader ∷ []) after,
      low ∙ ap (λ (z : View). lower_part z 1) now_is ∙ ap (λ (k : ℕ). first_pass t k mux) spans,
      grown
          ∙ ap (λ (l : List (FeedJob S)). record { pass = own; feed = feed; lines = reader; stop = None } ∷ l) (jobs_are ∙ ap (λ (k : ℕ). new_feeds t mux (k + 1) after) count)
          ∙ ap (λ (z : View). let j : FeedJob S = record { pass = z; feed = feed; lines = reader; stop = None } in j ∷ new_feeds t mux ((n + 1) + 1) after) pass
          ∙ ap (λ (k : ℕ). let j : FeedJob S = record { pass = new_pass t mux ((n + 1) + 1); feed = k; lines = reader; stop = None } in j ∷ new_feeds t mux ((n + 1) + 1) after) feed_is,
    )

pub cut_all : {S : Type 0} (t : TableId) (first now : View) (all left : List (Reading S)) (jobs : List (FeedJob S)) → left ≡ [] → Cut t first now all left jobs
    → (mux : Mux) → first ≡ first_pass t (length all + 2) mux → (now ≡ first_pass t 2 mux) × (jobs ≡ new_feeds t mux 1 all)
cut_all {S = S} t first now all left jobs is cut mux first_is =
    let (after, parts, now_is, jobs_are) = cut mux first_is in (
      now_is ∙ ap (λ (l : List (Reading S)). first_pass t (length l + 2) mux) is,
      jobs_are ∙ ap (λ (l : List (Reading S)). new_feeds t mux (length l + 1) after) is ∙ ap (new_feeds t mux 1) (sym (parts ∙ ap (λ (l : List (Reading S)). l ++ after) is)),
    )

-- what was cut off, by the turns of the hall
pub cut_done : {S : Type 0} (a t : TableId) (mux : Mux) (readers : List (Reading S)) (count : ℕ) (first now : View) (jobs : List (FeedJob S)) → a ≡ t → count ≡ length readers → first ≡ first_pass t (count + 2) mux
    → ((m : Mux) → first ≡ first_pass a (length readers + 2) m → (now ≡ first_pass a 2 m) × (jobs ≡ new_feeds a m 1 readers))
    → (now ≡ first_pass t 2 mux) × (jobs ≡ new_feeds t mux 1 readers)
cut_done a t mux readers count first now jobs e n is f =
    let r = f mux (is ∙ ap (λ (k : ℕ). first_pass t (k + 2) mux) n ∙ ap (λ (x : TableId). first_pass x (length readers + 2) mux) (sym e)) in
    (r.0 ∙ ap (λ (x : TableId). first_pass x 2 mux) e, r.1 ∙ ap (λ (x : TableId). new_feeds x mux 1 readers) e)

-- the passes of the control and of the player
pub kept_new : (t : TableId) (mux : Mux) (now next : View) → now ≡ first_pass t 2 mux → next ≡ lower_part now 1 → next ≡ new_pass t mux 0
kept_new t mux now next is kept = kept ∙ ap (λ (z : View). lower_part z 1) is

pub cut_new : (t : TableId) (mux : Mux) (now own : View) → now ≡ first_pass t 2 mux → own ≡ upper_part now 1 → own ≡ new_pass t mux 1
cut_new t mux now own is up = up ∙ ap (λ (z : View). upper_part z 1) is

pub feeds_len : {S : Type 0} (t : TableId) (mux : Mux) (n : ℕ) (readers : List (Reading S)) → length (new_feeds t mux n readers) ≡ length readers
feeds_len t mux n [] = refl
feeds_len t mux n (reader ∷ readers) = ap (λ (k : ℕ). suc k) (feeds_len t mux (n + 1) readers)
