-- What is posted, swap by swap.
use Rattle.std.proofs.Common.{◌≡◌, ℕ, List, [], ◌∷◌, ◌++◌, map, refl, sym, ap, ◌∙◌, subst, append-nil, append_assoc}
use Rattle.std.specs.Prelude.{Option, Some, None, Ok, Err, OnOk, Result}
use Rattle.std.specs.List.{AllByRecursion}
use Rattle.std.proofs.lemmas.List.{append_cancel_left}
use Rattle.std.proofs.lemmas.List.Elements.{All-from_recursion}
use Rattle.eit_segments.specs.Laws.{at_of}
use Rattle.eit_segments.specs.Placement.{AreInOrder}
use Rattle.eit_segments.proofs.Few.{in_order}
use mathlib.Core.List.{IsPrefix, map-append}
use Rattle.guide_model.specs.declared.guide.Guide.{Guide}
use Rattle.guide_model.specs.declared.guide.ServiceGuide.{ServiceGuide}
use Rattle.guide_limits.specs.Limits.{IsGuideWithin, IsServiceWithin}
use Rattle.mux_model.specs.declared.mux.Mux.{Mux}
use Rattle.publication.specs.Tables.{HasServicesOf}
use Rattle.journal_air.proofs.Published.{published_services}
use Rattle.si_time.specs.declared.moment.Moment.{Moment}
use Rattle.journal_model.specs.declared.step.Step.TheVariants.{Publish, Swap, Tick}
use Rattle.journal_model.specs.declared.step.Outcome.TheVariants.{Published, Swapped}
use Rattle.journal_model.specs.declared.step.Entry.{Entry}
use Rattle.desk_core.specs.declared.airing.Airing.{Airing}
use Rattle.desk_core.specs.Desks.{on_air_of}
use Rattle.desk_core.specs.Publications.{publication, swaps}
use Rattle.desk_core.proofs.JournalFacts.{publication_stays}
use Rattle.guide_board.specs.declared.post.Post.{Post}
use Rattle.guide_board.specs.Posts.{IsInOrder, Sight, post, services_in, services_of, with_post}
use Rattle.turn_lock.specs.declared.known.Caller.{Caller}
use Rattle.turn_lock.specs.Journal.{entries_of}
use Rattle.turn_lock.proofs.Lists.{prefix_self, prefix_trans}
use Rattle.desk_hall.specs.Turn.{View, Made, caller_of, desk_with, entry_of}
use Rattle.desk_hall.proofs.Passes.{made_began}
use Rattle.headend_jobs.specs.Posting.{HasPosted, HasPostedAll, HaveServicesOf, KeepsBoard, opening_of, post_at, posts_by, posts_of}
use Rattle.headend_jobs.specs.Ticking.{Ticked}
use Rattle.headend_jobs.specs.Whole.{JournalDid}
use Rattle.headend_jobs.proofs.Ticking.{tick_aired}
use Rattle.headend_jobs.proofs.Airs.{swap_number}
use Rattle.journal_air.proofs.SwapFacts.{swaps-append}

-- ---- what can be posted

within_order : (services : List ServiceGuide) → AllByRecursion IsServiceWithin services → AllByRecursion (λ (s : ServiceGuide). AreInOrder (map at_of s.events)) services
within_order [] within = tt
within_order (s ∷ services) within = (in_order s.events (within.0).events.apart, within_order services within.1)

-- a guide within its limits has its events in order
pub guide_in_order : (guide : Guide) → IsGuideWithin guide → IsInOrder guide
guide_in_order guide within = All-from_recursion (λ (s : ServiceGuide). AreInOrder (map at_of s.events)) guide.services (within_order guide.services within.services)

-- a publication of the multiplex has the services of the posts
pub post_services : (mux : Mux) (guide : Guide) (posts : List Post) → HasServicesOf mux guide → HaveServicesOf mux posts → services_of guide ≡ services_in posts
post_services mux guide posts has have = has ∙ sym have

-- the opening post is one of the multiplex
pub opening_services : (mux : Mux) (posts : List Post) → posts ≡ opening_of mux ∷ [] → HaveServicesOf mux posts
opening_services mux posts is = ap services_in is ∙ published_services mux [] 0

pub services_kept : (mux : Mux) (old new : Sight) → KeepsBoard old new → HaveServicesOf mux old.posts → HaveServicesOf mux new.posts
services_kept mux old new keeps have = keeps.services ∙ have

pub keeps_self : (board : Sight) → KeepsBoard board board
keeps_self board = record { board = refl; services = refl }

pub keeps_then : (a b c : Sight) → KeepsBoard a b → KeepsBoard b c → KeepsBoard a c
keeps_then a b c first then = record { board = then.board ∙ first.board; services = then.services ∙ first.services }

-- ---- what holds with Ok

pub if_ok : {T E : Type 0} (X : Type 0) (r : Result T E) → X → OnOk r X
if_ok X (Ok u) x = x
if_ok X (Err e) x = tt

pub ok_then : {T E : Type 0} (X Y : Type 0) (r : Result T E) → (X → Y) → OnOk r X → OnOk r Y
ok_then X Y (Ok u) f x = f x
ok_then X Y (Err e) f x = tt

-- ---- posts of entries

posts-append : (mux : Mux) (journal xs ys : List Entry) → posts_by mux journal (xs ++ ys) ≡ posts_by mux journal xs ++ posts_by mux journal ys
posts-append mux journal xs ys = ap (map (post_at mux journal)) (swaps-append xs ys) ∙ map-append (post_at mux journal) (swaps xs) (swaps ys)

-- where nothing was made, nothing was posted
pub posted_none : (mux : Mux) (v w : View) (board : Sight) → w ≡ v → HasPosted mux v w board board
posted_none mux v w board same = record {
  added = [];
  made = ap (λ (z : View). z.own.made) same ∙ sym (append-nil v.own.made);
  began = subst (IsPrefix v.seen) (ap (λ (z : View). z.seen) (sym same)) (prefix_self v.seen);
  posts = λ journal p. sym (append-nil board.posts);
}

-- what was posted, and then more
pub posted_then : (mux : Mux) (v m w : View) (a b c : Sight) → HasPosted mux v m a b → HasPosted mux m w b c → HasPosted mux v w a c
posted_then mux v m w a b c first then = record {
  added = first.added ++ then.added;
  made = then.made ∙ ap (λ (l : List Entry). l ++ then.added) first.made ∙ append_assoc v.own.made first.added then.added;
  began = prefix_trans v.seen m.seen w.seen first.began then.began;
  posts = λ journal p.
      then.posts journal p ∙ ap (λ (l : List Post). l ++ posts_by mux journal then.added) (first.posts journal (prefix_trans m.seen w.seen journal then.began p))
      ∙ append_assoc a.posts (posts_by mux journal first.added) (posts_by mux journal then.added)
      ∙ ap (λ (l : List Post). a.posts ++ l) (sym (posts-append mux journal first.added then.added));
}

-- a swap, and the post of what it put on air
pub posted_swap : (mux : Mux) (airing : Airing) (v w : View) (old new : Sight) → Made Swap (Swapped airing.number airing.moment) v w → airing ≡ on_air_of (desk_with mux w.seen)
    → new ≡ with_post old airing.number airing.guide → HasPosted mux v w old new
posted_swap mux airing v w old new m is put = record {
  added = entry_of v.own.low Swap (Swapped airing.number airing.moment) ∷ [];
  made = ap (λ (z : View). z.own.made) m.gained;
  began = made_began Swap (Swapped airing.number airing.moment) v w m;
  posts = λ journal (zs, e).
      let guide : airing.guide ≡ publication mux w.seen airing.number = subst (λ (x : Airing). x.guide ≡ publication mux w.seen x.number) (sym is) refl in
      let there : publication mux journal airing.number ≡ publication mux w.seen airing.number =
      ap (λ (l : List Entry). publication mux l airing.number) (sym e) ∙ publication_stays mux w.seen zs airing.number (swap_number 0 airing v w m) in
      ap (λ (s : Sight). s.posts) put ∙ ap (λ (g : Guide). old.posts ++ post airing.number g ∷ []) (guide ∙ sym there);
}

-- a publish posts nothing
pub posted_publish : (mux : Mux) (n : ℕ) (v w : View) (board : Sight) → Made Publish (Published n) v w → HasPosted mux v w board board
posted_publish mux n v w board m = record {
  added = entry_of v.own.low Publish (Published n) ∷ [];
  made = ap (λ (z : View). z.own.made) m.gained;
  began = made_began Publish (Published n) v w m;
  posts = λ journal p. sym (append-nil board.posts);
}

-- and so does a tick
pub posted_tick : (mux : Mux) (tick : Option Moment) (v b : View) (board : Sight) → Ticked tick v b → HasPosted mux v b board board
posted_tick mux None v b board t = posted_none mux v b board t
posted_tick mux (Some at) v b board (outcome, m) = record {
  added = entry_of v.own.low (Tick at) outcome ∷ [];
  made = ap (λ (z : View). z.own.made) m.gained;
  began = made_began (Tick at) outcome v b m;
  posts = λ journal p. sym (append-nil board.posts) ∙ ap (λ (l : List (ℕ × Moment)). board.posts ++ map (post_at mux journal) l) (sym (tick_aired at outcome v b m));
}

-- ---- the posts of a whole journal

-- those of a pass that had made nothing before
pub posted_all : (mux : Mux) (v w : View) (old new : Sight) → v.own.made ≡ [] → old.posts ≡ opening_of mux ∷ [] → HasPosted mux v w old new → HasPostedAll mux w new
posted_all mux v w old new none opening h = record {
  posts = λ journal p.
      h.posts journal p ∙ ap (λ (l : List Post). l ++ posts_by mux journal h.added) opening
      ∙ ap (λ (l : List Entry). opening_of mux ∷ posts_by mux journal l) (sym (h.made ∙ ap (λ (l : List Entry). l ++ h.added) none));
}

-- The posts behind the last turns of the control are those of the journal.
pub posted_whole : (mux : Mux) (control player : Caller Entry) (feeds : List (Caller Entry)) (final journal : List Entry) (p v w : View) (old new : Sight) → JournalDid control player feeds final mux journal
    → p.own ≡ player → v.own ≡ control → entries_of caller_of control.low journal ≡ w.own.made → IsPrefix p.seen v.seen → IsPrefix w.seen journal → HasPostedAll mux p old → HasPosted mux v w old new
    → new.posts ≡ posts_of mux journal
posted_whole mux control player feeds final journal p v w old new did player_is control_is made seen began all more =
    let final_is : more.added ≡ final =
    append_cancel_left control.made more.added final (ap (λ (c : Caller Entry). c.made ++ more.added) (sym control_is) ∙ sym more.made ∙ sym made ∙ did.mine) in
    more.posts journal began
    ∙ ap (λ (l : List Post). l ++ posts_by mux journal more.added) (all.posts journal (prefix_trans p.seen v.seen journal seen (prefix_trans v.seen w.seen journal more.began began)))
    ∙ ap (λ (l : List Post). opening_of mux ∷ l)
    (ap (λ (l : List Entry). posts_by mux journal p.own.made ++ posts_by mux journal l) final_is
    ∙ ap (λ (c : Caller Entry). posts_by mux journal c.made ++ posts_by mux journal final) player_is
    ∙ sym (posts-append mux journal player.made final)
    ∙ ap (map (post_at mux journal)) (sym did.swaps_are))
