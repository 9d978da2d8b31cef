-- The views of a run, from their jobs to their lines.
use Rattle.std.proofs.Common.{◌≡◌, ◌≢◌, ◌∙◌, ◌==◌, ne_eqb, ℕ, ◌+◌, ◌<◌, zero, suc, Bool, true, false, List, [], ◌∷◌, ◌++◌, length, map, take, refl, sym, ap, subst, arith, append-nil, append_assoc, vec_len}
use Rattle.std.specs.Prelude.{Option, Some, None, Ok, Err, Result, get_or, remove, slice_index_or}
use Rattle.std.specs.List.{All, AllByRecursion, AllZip}
use Rattle.std.proofs.lemmas.List.{map-append, take_more}
use Rattle.std.proofs.lemmas.List.Elements.{All-from_recursion, recursion_from_All}
use Rattle.mux_model.specs.declared.mux.Mux.{Mux}
use Rattle.journal_model.specs.declared.step.Entry.{Entry}
use Rattle.guide_board.specs.declared.lines.NowNext.{NowNext}
use Rattle.guide_board.specs.declared.post.Post.{Post}
use Rattle.guide_board.specs.Posts.{Sight, serves, services_in}
use Rattle.headend_jobs.specs.declared.live.LiveStop.{LiveStop}
use Rattle.headend_jobs.specs.declared.live.LiveStop.TheVariants as live
use Rattle.headend_jobs.specs.declared.views.ViewJob.{ViewJob}
use Rattle.journal_air.specs.declared.send.SendStop.{SendStop}
use Rattle.journal_air.specs.declared.send.SendStop.TheVariants.{Air, Memory}
use Rattle.headend_jobs.specs.Live.{TallyDid}
use Rattle.headend_jobs.specs.Stops.{after, and_stop, sent_stop}
use Rattle.journal_air.specs.Tallied.{IsTallyOf}
use Rattle.cycle_player.specs.Tally.{Tallied}
use Rattle.headend_jobs.specs.Posting.{KeepsBoard, opening_of}
use Rattle.headend_jobs.specs.Views.{AreSaid, ViewDid, ViewReady, Viewed, ViewsDid}
use Rattle.headend_jobs.proofs.Posts.{opening_services}
use Rattle.headend_live.specs.declared.views.ViewLine.{ViewLine}
use Rattle.headend_live.specs.Viewing.{AreViewed, IsAsked, IsNew, IsServiceOf, asked_for, line_of}
use Rattle.headend_live.specs.Watched.{watched_stop}

-- ---- lists

last_of : {A : Type 0} (P : A → Type 0) (xs : List A) (x : A) → AllByRecursion P (xs ++ x ∷ []) → AllByRecursion P xs × P x
last_of P [] x all = (tt, all.0)
last_of P (y ∷ xs) x all = let r = last_of P xs x all.1 in ((all.0, r.0), r.1)

zip_push : {A B : Type 0} (R : A → B → Type 0) (xs : List A) (ys : List B) (x : A) (y : B) → AllZip R xs ys → R x y → AllZip R (xs ++ x ∷ []) (ys ++ y ∷ [])
zip_push R [] [] x y all is = (is, tt)
zip_push R [] (z ∷ ys) x y all is = absurd all
zip_push R (w ∷ xs) [] x y all is = absurd all
zip_push R (w ∷ xs) (z ∷ ys) x y all is = (all.0, zip_push R xs ys x y all.1 is)

-- the first of a list that was taken off
pub first_of : {A : Type 0} (old new : List A) (x : A) → 0 < length old → x ≡ slice_index_or old 0 x → new ≡ remove old 0 → old ≡ x ∷ new
first_of [] new x some is rest = absurd (omega (arith, some))
first_of (y ∷ ys) new x some is rest = ap (λ l. y ∷ l) (sym rest) ∙ ap (λ z. z ∷ new) (sym is)

-- none is left where the list is empty
pub none_left : {A : Type 0} (xs : List A) (n : ℕ) (empty : Bool) → empty ≡ (n == 0) → empty ≡ true → n ≡ length xs → xs ≡ []
none_left [] n empty is full len = refl
none_left (x ∷ xs) n empty is full len =
    let some : (n == 0) ≡ false = ne_eqb n 0 (λ e. absurd (omega (arith, e, len))) in
    absurd (let told : true ≡ false = sym full ∙ is ∙ some in cc told)

-- ---- before the run

-- so many views have their jobs, and these viewers are left
abbrev pub HaveJobs : Sight → ℕ → List ℕ → ℕ → List Sight → List ViewJob → Type 0
HaveJobs board cycles services n viewers jobs = AllByRecursion (λ (v : Sight). v ≡ board) viewers × AllZip (IsNew board cycles) (take n services) jobs

pub jobs_none : (board : Sight) (cycles : ℕ) (services : List ℕ) (viewers : List Sight) (jobs : List ViewJob) → jobs ≡ [] → All (λ (v : Sight). v ≡ board) viewers → HaveJobs board cycles services 0 viewers jobs
jobs_none board cycles services viewers jobs none all = (recursion_from_All (λ (v : Sight). v ≡ board) viewers all, subst (λ (l : List ViewJob). AllZip (IsNew board cycles) [] l) (sym none) tt)

pub jobs_more : (board : Sight) (cycles n d : ℕ) (services : List ℕ) (old viewers : List Sight) (viewer : Sight) (jobs more : List ViewJob) (job : ViewJob) → n < length services → old ≡ viewers ++ viewer ∷ []
    → IsNew viewer cycles (get_or services n d) job → more ≡ jobs ++ job ∷ [] → HaveJobs board cycles services n old jobs → HaveJobs board cycles services (n + 1) viewers more
jobs_more board cycles n d services old viewers viewer jobs more job less popped new put (same, all) =
    let left = last_of (λ (v : Sight). v ≡ board) viewers viewer (subst (AllByRecursion (λ (v : Sight). v ≡ board)) popped same) in (
      left.0,
      subst (λ (l : List ViewJob). AllZip (IsNew board cycles) (take (n + 1) services) l) (sym put)
          (subst (λ (l : List ℕ). AllZip (IsNew board cycles) l (jobs ++ job ∷ [])) (sym (take_more services n d less))
          (zip_push (IsNew board cycles) (take n services) jobs (get_or services n d) job all (subst (λ (v : Sight). IsNew v cycles (get_or services n d) job) left.1 new))),
    )

-- each of them is ready, where the multiplex has its service
ready_one : (mux : Mux) (board : Sight) (cycles service : ℕ) (job : ViewJob) → board.posts ≡ opening_of mux ∷ [] → IsServiceOf mux service → IsNew board cycles service job → vec_len job.answers ≡ length job.answers.items → ViewReady job
ready_one mux board cycles service job opening has new len = record {
  served =
      ap (λ (v : Sight). serves (services_in v.posts) job.service) new.viewer ∙ ap (λ (s : ℕ). serves (services_in board.posts) s) new.service_is
      ∙ ap (λ (l : List ℕ). serves l service) (opening_services mux board.posts opening) ∙ has;
  room = omega (arith, new.room, new.times, len, ap length new.none);
  said = subst (AreSaid job.viewer.posts job.service) (sym new.none) tt;
}

all_ready : (mux : Mux) (board : Sight) (cycles : ℕ) (services : List ℕ) (jobs : List ViewJob) → board.posts ≡ opening_of mux ∷ [] → AllByRecursion (IsServiceOf mux) services → AllZip (IsNew board cycles) services jobs
    → AllByRecursion ViewReady jobs
all_ready mux board cycles [] [] opening have all = tt
all_ready mux board cycles [] (job ∷ jobs) opening have all = absurd all
all_ready mux board cycles (s ∷ services) [] opening have all = absurd all
all_ready mux board cycles (s ∷ services) (job ∷ jobs) opening have all = (ready_one mux board cycles s job opening have.0 all.0 job.answers.ok.0, all_ready mux board cycles services jobs opening have.1 all.1)

pub views_ready : (mux : Mux) (board : Sight) (cycles : ℕ) (services : List ℕ) (jobs : List ViewJob) → board.posts ≡ opening_of mux ∷ [] → AllByRecursion (IsServiceOf mux) services → AllZip (IsNew board cycles) services jobs → All ViewReady jobs
views_ready mux board cycles services jobs opening have all = All-from_recursion ViewReady jobs (all_ready mux board cycles services jobs opening have all)

-- ---- behind it

asked_one : (mux : Mux) (board then : Sight) (cycles service : ℕ) (old new : ViewJob) → board.posts ≡ opening_of mux ∷ [] → IsServiceOf mux service → KeepsBoard board then → IsNew board cycles service old → ViewDid old new
    → IsAsked then cycles new
asked_one mux board then cycles service old new opening has keeps is did =
    let ready = ready_one mux board cycles service old opening has is old.answers.ok.0 in
    let none : vec_len old.answers ≡ 0 = old.answers.ok.0 ∙ ap length is.none in
    record {
      board_is = did.board ∙ ap (λ (v : Sight). v.board) is.viewer ∙ sym keeps.board;
      served = ap (λ (l : List ℕ). serves l new.service) did.services ∙ ap (λ (s : ℕ). serves (services_in old.viewer.posts) s) did.service ∙ ready.served;
      said = subst (λ (s : ℕ). AreSaid new.viewer.posts s new.answers.items) (sym did.service) did.said;
      count = omega (arith, new.answers.ok.0, did.count, none, is.times);
      room = omega (arith, did.count, none, is.times, is.room, did.capacity);
    }

all_asked : (mux : Mux) (board then : Sight) (cycles : ℕ) (services : List ℕ) (old new : List ViewJob) → board.posts ≡ opening_of mux ∷ [] → AllByRecursion (IsServiceOf mux) services → KeepsBoard board then → AllZip (IsNew board cycles) services old
    → length new ≡ length old → ((i : ℕ) (d : ViewJob) → i < length old → ViewDid (slice_index_or old i d) (slice_index_or new i d)) → AllByRecursion (IsAsked then cycles) new × (asked_for new ≡ services)
all_asked mux board then cycles [] [] [] opening have keeps all len each = (tt, refl)
all_asked mux board then cycles [] [] (n ∷ new) opening have keeps all len each = absurd (omega (arith, len))
all_asked mux board then cycles [] (o ∷ old) new opening have keeps all len each = absurd all
all_asked mux board then cycles (s ∷ services) [] new opening have keeps all len each = absurd all
all_asked mux board then cycles (s ∷ services) (o ∷ old) [] opening have keeps all len each = absurd (omega (arith, len))
all_asked mux board then cycles (s ∷ services) (o ∷ old) (n ∷ new) opening have keeps all len each =
    let did : ViewDid o n = each zero o (omega arith) in
    let rest = all_asked mux board then cycles services old new opening have.1 keeps all.1 (omega (arith, len)) (λ i d less. each (suc i) d (omega (arith, less))) in
    let service : n.service ≡ s = did.service ∙ (all.0).service_is in
    ((asked_one mux board then cycles s o n opening have.0 keeps all.0 did, rest.0), ap (λ (k : ℕ). k ∷ asked_for new) service ∙ ap (λ (l : List ℕ). s ∷ l) rest.1)

pub views_asked : (mux : Mux) (board then : Sight) (cycles : ℕ) (services : List ℕ) (old new : List ViewJob) → board.posts ≡ opening_of mux ∷ [] → AllByRecursion (IsServiceOf mux) services → KeepsBoard board then
    → AllZip (IsNew board cycles) services old → ViewsDid old new → AllByRecursion (IsAsked then cycles) new × (asked_for new ≡ services)
views_asked mux board then cycles services old new opening have keeps all did = all_asked mux board then cycles services old new opening have keeps all did.len did.each

-- ---- one view more

viewed_push : (posts : List Post) (count : ℕ) (services : List ℕ) (viewers : List Sight) (lines : List ViewLine) (service : ℕ) (viewer : Sight) (answers : List NowNext) → AreViewed posts count services viewers lines → Viewed posts count service viewer answers
    → AreViewed posts count (services ++ service ∷ []) (viewers ++ viewer ∷ []) (lines ++ map (line_of service) answers)
viewed_push posts count [] viewers lines service viewer answers are is =
    (viewer, [], answers, [], ap (λ (l : List Sight). l ++ viewer ∷ []) are.0, ap (λ (l : List ViewLine). l ++ map (line_of service) answers) are.1 ∙ sym (append-nil (map (line_of service) answers)), is, (refl, refl))
viewed_push posts count (s ∷ services) viewers lines service viewer answers (v, others, first, more, viewers_are, lines_are, here, rest) is = (
  v,
  others ++ viewer ∷ [],
  first,
  more ++ map (line_of service) answers,
  ap (λ (l : List Sight). l ++ viewer ∷ []) viewers_are,
  ap (λ (l : List ViewLine). l ++ map (line_of service) answers) lines_are ∙ append_assoc (map (line_of s) first) more (map (line_of service) answers),
  here,
  viewed_push posts count services others more service viewer answers rest is,
)

-- some of these jobs have told what they were answered, and the others are left
pub record AreTold (board : Sight) (cycles : ℕ) (all left : List ViewJob) (viewers : List Sight) (lines : List ViewLine) : Type 0 where
  pub asked : AllByRecursion (IsAsked board cycles) left
  pub told : List ViewJob
  pub parts : all ≡ told ++ left
  pub viewed : AreViewed board.posts (cycles + 1) (asked_for told) viewers lines

pub told_none : (board : Sight) (cycles : ℕ) (all : List ViewJob) (viewers : List Sight) (lines : List ViewLine) → AllByRecursion (IsAsked board cycles) all → lines ≡ [] → viewers ≡ [] → AreTold board cycles all all viewers lines
told_none board cycles all viewers lines asked none alone = record { asked = asked; told = []; parts = refl; viewed = (alone, none) }

pub told_more : (board : Sight) (cycles : ℕ) (all left rest : List ViewJob) (job done : ViewJob) (viewers viewers' : List Sight) (lines lines' : List ViewLine) → left ≡ job ∷ rest → done.service ≡ job.service
    → Viewed board.posts (length job.answers.items + 1) job.service done.viewer done.answers.items → lines' ≡ lines ++ map (line_of done.service) done.answers.items → viewers' ≡ viewers ++ done.viewer ∷ []
    → AreTold board cycles all left viewers lines → AreTold board cycles all rest viewers' lines'
told_more board cycles all left rest job done viewers viewers' lines lines' is service viewed put shown t =
    let asked : AllByRecursion (IsAsked board cycles) (job ∷ rest) = subst (AllByRecursion (IsAsked board cycles)) is t.asked in
    let here : Viewed board.posts (cycles + 1) job.service done.viewer done.answers.items = subst (λ (n : ℕ). Viewed board.posts (n + 1) job.service done.viewer done.answers.items) (asked.0).count viewed in
    let both = viewed_push board.posts (cycles + 1) (asked_for t.told) viewers lines job.service done.viewer done.answers.items t.viewed here in
    record {
      asked = asked.1;
      told = t.told ++ job ∷ [];
      parts = t.parts ∙ ap (λ (l : List ViewJob). t.told ++ l) is ∙ sym (append_assoc t.told (job ∷ []) rest);
      viewed =
          subst (λ (l : List ViewLine). AreViewed board.posts (cycles + 1) (asked_for (t.told ++ job ∷ [])) viewers' l) (sym (put ∙ ap (λ (s : ℕ). lines ++ map (line_of s) done.answers.items) service))
          (subst (λ (l : List Sight). AreViewed board.posts (cycles + 1) (asked_for (t.told ++ job ∷ [])) l (lines ++ map (line_of job.service) done.answers.items)) (sym shown)
          (subst (λ (l : List ℕ). AreViewed board.posts (cycles + 1) l (viewers ++ done.viewer ∷ []) (lines ++ map (line_of job.service) done.answers.items))
          (sym (map-append (λ (j : ViewJob). j.service) t.told (job ∷ []))) both));
    }

pub told_all : (board : Sight) (cycles : ℕ) (all left : List ViewJob) (viewers : List Sight) (lines : List ViewLine) → left ≡ [] → AreTold board cycles all left viewers lines → AreViewed board.posts (cycles + 1) (asked_for all) viewers lines
told_all board cycles all left viewers lines none t =
    subst (λ (l : List ViewJob). AreViewed board.posts (cycles + 1) (asked_for l) viewers lines) (sym (t.parts ∙ ap (λ (l : List ViewJob). t.told ++ l) none ∙ append-nil t.told)) t.viewed

-- ---- the stop

pub no_stop : (wanting : Bool) (stop : Option LiveStop) → watched_stop wanting stop ≡ None → stop ≡ None
no_stop true None e = refl
no_stop true (Some live.Memory) e = cc e
no_stop true (Some live.Air) e = cc e
no_stop true (Some (live.Control stop)) e = cc e
no_stop true (Some (live.Feed feed stop)) e = cc e
no_stop false stop e = e

after_some : (first : LiveStop) (b : Option LiveStop) → after first b ≡ None → ⊥
after_some first None e = cc
after_some first (Some live.Memory) e = cc
after_some first (Some other) e = cc

-- there is none of two stops where neither is
pub and_none : (a b : Option LiveStop) → and_stop a b ≡ None → (a ≡ None) × (b ≡ None)
and_none None b e = (refl, e)
and_none (Some live.Memory) b e = cc
and_none (Some live.Air) b e = absurd (after_some live.Air b e)
and_none (Some (live.Control t)) b e = absurd (after_some (live.Control t) b e)
and_none (Some (live.Feed g t)) b e = absurd (after_some (live.Feed g t) b e)

sent_none : (sent : Result (Unit {0}) SendStop) → sent_stop sent ≡ None → sent ≡ Ok tt
sent_none (Ok u) e = refl
sent_none (Err Air) e = cc e
sent_none (Err Memory) e = cc e

-- where nothing stopped a run, all was sent
pub all_sent : (wanting : Bool) (sent : Result (Unit {0}) SendStop) (rest : Option LiveStop) → watched_stop wanting (and_stop (sent_stop sent) rest) ≡ None → sent ≡ Ok tt
all_sent wanting sent rest none = sent_none sent (and_none (sent_stop sent) rest (no_stop wanting (and_stop (sent_stop sent) rest) none)).0

-- where memory was not wanting, the tally is that of the journal
pub tally_known : (mux : Mux) (journal : List Entry) (tally : Tallied) (wanting : Bool) (sent : Result (Unit {0}) SendStop) (rest stop : Option LiveStop) → stop ≡ watched_stop wanting (and_stop (sent_stop sent) rest)
    → TallyDid mux journal tally sent → stop ≢ Some live.Memory → IsTallyOf mux journal tally
tally_known mux journal tally wanting (Ok u) rest stop is did other = did
tally_known mux journal tally wanting (Err Air) rest stop is did other = did
tally_known mux journal tally true (Err Memory) rest stop is did other = absurd (other is)
tally_known mux journal tally false (Err Memory) rest stop is did other = absurd (other is)
