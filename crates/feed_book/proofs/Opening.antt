-- The book of a multiplex before any edit, one service after another.
use Rattle.std.proofs.Common.{◌≡◌, ℕ, ◌+◌, ◌<◌, ◌≤◌, List, [], ◌∷◌, ◌++◌, length, map, take, get_or, refl, sym, ◌∙◌, ap, subst}
use Rattle.std.proofs.lemmas.Grind.{flat_map-append}
use Rattle.std.proofs.lemmas.List.{append-nil, map-append, take_all, take_more}
use Rattle.mux_model.specs.declared.mux.MuxService.{MuxService}
use Rattle.mux_model.specs.declared.mux.RemoteService.{RemoteService}
use Rattle.mux_model.specs.declared.mux.Other.{Other}
use Rattle.mux_model.specs.declared.mux.Mux.{Mux}
use Rattle.mux_model.specs.Order.{all_placed, placed}
use Rattle.mux_model.specs.Sound.{remote_services}
use Rattle.mux_model.specs.Fed.{FedService, fed_of, fed_of_remote, fed_services, has_lower_fed_id}
use Rattle.mux_model.proofs.Placing.{map_placed, placed_append, placed_more}
use Rattle.guide_limits.specs.KeptService.{KeptService}
use Rattle.guide_limits.specs.Guides.{kept_after, book_after}
use Rattle.guide_limits.specs.Sound.{AreAscending}
use Rattle.feed_book.specs.Books.{has_lower_kept_id}
use Rattle.feed_book.specs.Changes.{services_of}
use Rattle.feed_book.proofs.BookLemmas.{services-after}

-- services of another stream, with their names and no events
abbrev pub opened : List RemoteService → List KeptService
opened services = book_after (map fed_of_remote services) []

abbrev pub own_opened : List MuxService → List KeptService
own_opened services = book_after (map fed_of services) []

-- one more of a stream
pub remote_next : (remotes : List RemoteService) (i : ℕ) (r : RemoteService) (done new first : List KeptService) → i < length remotes → r ≡ get_or remotes i r
    → done ≡ all_placed has_lower_kept_id (opened (take i remotes)) first → new ≡ placed has_lower_kept_id (kept_after [] (fed_of_remote r)) done
    → new ≡ all_placed has_lower_kept_id (opened (take (i + 1) remotes)) first
remote_next remotes i r done new first lt is before put =
    let here = fed_of_remote r in
    let split : opened (take (i + 1) remotes) ≡ opened (take i remotes) ++ kept_after [] here ∷ [] =
    ap opened (take_more remotes i r lt ∙ ap (λ (x : RemoteService). take i remotes ++ x ∷ []) (sym is))
    ∙ ap (map (kept_after [])) (map-append fed_of_remote (take i remotes) (r ∷ [])) ∙ map-append (kept_after []) (map fed_of_remote (take i remotes)) (here ∷ []) in
    put ∙ ap (placed has_lower_kept_id (kept_after [] here)) before
    ∙ sym (placed_more has_lower_kept_id (opened (take i remotes)) first (kept_after [] here))
    ∙ ap (λ (xs : List KeptService). all_placed has_lower_kept_id xs first) (sym split)

pub remotes_whole : (remotes : List RemoteService) (i : ℕ) (new first : List KeptService) → length remotes ≤ i → new ≡ all_placed has_lower_kept_id (opened (take i remotes)) first
    → new ≡ all_placed has_lower_kept_id (opened remotes) first
remotes_whole remotes i new first l is = is ∙ ap (λ (xs : List RemoteService). all_placed has_lower_kept_id (opened xs) first) (take_all i remotes l)

-- one stream more
pub other_next : (others : List Other) (i : ℕ) (o : Other) (done new first : List KeptService) → i < length others → o ≡ get_or others i o
    → done ≡ all_placed has_lower_kept_id (opened (remote_services (take i others))) first → new ≡ all_placed has_lower_kept_id (opened o.services) done
    → new ≡ all_placed has_lower_kept_id (opened (remote_services (take (i + 1) others))) first
other_next others i o done new first lt is before put =
    let before_it = remote_services (take i others) in
    let all : remote_services (take (i + 1) others) ≡ before_it ++ o.services =
    ap remote_services (take_more others i o lt ∙ ap (λ (x : Other). take i others ++ x ∷ []) (sym is))
    ∙ flat_map-append (λ (x : Other). x.services) (take i others) (o ∷ []) ∙ ap (λ (xs : List RemoteService). before_it ++ xs) (append-nil o.services) in
    let split : opened (remote_services (take (i + 1) others)) ≡ opened before_it ++ opened o.services =
    ap opened all ∙ ap (map (kept_after [])) (map-append fed_of_remote before_it o.services) ∙ map-append (kept_after []) (map fed_of_remote before_it) (map fed_of_remote o.services) in
    put ∙ ap (all_placed has_lower_kept_id (opened o.services)) before
    ∙ sym (placed_append has_lower_kept_id (opened before_it) (opened o.services) first)
    ∙ ap (λ (xs : List KeptService). all_placed has_lower_kept_id xs first) (sym split)

-- all of them
pub all_opened : (mux : Mux) (others : List Other) (j : ℕ) (book : List KeptService) → others ≡ mux.others → length others ≤ j
    → book ≡ all_placed has_lower_kept_id (opened (remote_services (take j others))) (own_opened mux.services) → book ≡ book_after (fed_services mux) []
all_opened mux others j book same l is =
    is ∙ ap (λ (xs : List Other). all_placed has_lower_kept_id (opened (remote_services xs)) (own_opened mux.services)) (take_all j others l ∙ same)
    ∙ sym (map_placed (kept_after []) has_lower_fed_id has_lower_kept_id (λ a b. refl) (map fed_of_remote (remote_services mux.others)) (map fed_of mux.services))

pub ascend-opened : (services : List FedService) (book : List KeptService) → book ≡ book_after services [] → AreAscending (map (λ (s : FedService). s.service) services) → AreAscending (services_of book)
ascend-opened services book is once = subst AreAscending (sym (ap services_of is ∙ services-after services [])) once
