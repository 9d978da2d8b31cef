-- The services that feeds edit of a multiplex, from its own services and those of other streams: what holds of these holds of those.
use Rattle.std.proofs.Common.{◌≡◌, ◌≢◌, ℕ, ◌<◌, ◌≤◌, ◌==◌, Bool, true, false, ◌||◌, ◌+◌, List, [], ◌∷◌, ◌++◌, length, take, drop, get_or, map, Some, None, refl, sym, ap, ◌∙◌, subst, arith, inl, inr, eq-eqb}
use Rattle.std.specs.Prelude.{nat_lt, is_some, option_map, find, Option, unwrap_or}
use Rattle.std.specs.List.{AllByRecursion, flat_map, list_any}
use Rattle.std.proofs.lemmas.Bool.{cases_Bool, eqb-true}
use Rattle.std.proofs.lemmas.Bool.Decides.{nat_tests}
use Rattle.std.proofs.lemmas.Grind.{flat_map-append}
use Rattle.std.proofs.lemmas.List.{append-nil, take-append-drop, take_all, take_more}
use Rattle.si_lists.proofs.Lists.{all_behind, all_front, all_flat, all_map, all_of_map, all_through, all_to_map, all_two, each_unit}
use Rattle.guide_model.specs.Decoding.{IsKept}
use Rattle.mux_model.specs.declared.mux.MuxService.{MuxService}
use Rattle.mux_model.specs.declared.mux.RemoteService.{RemoteService}
use Rattle.mux_model.specs.declared.mux.Other.{Other}
use Rattle.mux_model.specs.declared.mux.Mux.{Mux}
use Rattle.mux_model.specs.Order.{DoCome, all_placed, placed}
use Rattle.mux_model.specs.Sound.{AreDifferent, DoAscend, IsSound, IsSoundOther, IsSoundRemote, IsSoundService, remote_services, service_ids}
use Rattle.mux_model.specs.Fed.{FedService, DoFedAscend, IsNamed, IsSoundFed, fed_ids, fed_of, fed_of_remote, fed_services, feed_of, has_lower_fed_id}
use Rattle.mux_model.proofs.Placing.{all_in_place, all_with, any_placed, come_with, of_placed}

-- ---- without other streams

pub own_alone : (mux : Mux) → mux.others ≡ [] → fed_services mux ≡ map fed_of mux.services
own_alone mux none = ap (λ (others : List Other). all_placed has_lower_fed_id (map fed_of_remote (remote_services others)) (map fed_of mux.services)) none

-- ---- what each has

each_sound : (services : List MuxService) → AllByRecursion IsSoundService services → AllByRecursion IsSoundFed (map fed_of services)
each_sound services h = all_through IsSoundService IsSoundFed fed_of (λ s h. record { service = h.service; feed = h.feed; provider = h.provider; name = h.name }) services h

remotes_sound : (mux : Mux) → IsSound mux → AllByRecursion IsSoundRemote (remote_services mux.others)
remotes_sound mux sound = all_flat IsSoundOther IsSoundRemote (λ (o : Other). o.services) (λ o h. h.services) mux.others sound.others.each

-- those of a sound multiplex are sound
pub fed_sound : (mux : Mux) → IsSound mux → AllByRecursion IsSoundFed (fed_services mux)
fed_sound mux sound =
    all_in_place IsSoundFed has_lower_fed_id (map fed_of_remote (remote_services mux.others)) (map fed_of mux.services)
    (all_through IsSoundRemote IsSoundFed fed_of_remote (λ s h. record { service = h.service; feed = h.feed; provider = h.provider; name = h.name }) (remote_services mux.others) (remotes_sound mux sound))
    (each_sound mux.services sound.services)

-- a service of another stream has names that may be kept
abbrev pub HasNames : RemoteService → Type 0
HasNames s = IsKept s.provider × IsKept s.name

-- their names may be kept where those of the multiplex may
pub fed_named : (mux : Mux) → AllByRecursion (λ (s : MuxService). IsKept s.provider × IsKept s.name) mux.services × AllByRecursion HasNames (remote_services mux.others)
    → AllByRecursion IsNamed (fed_services mux)
fed_named mux (own, remote) =
    all_in_place IsNamed has_lower_fed_id (map fed_of_remote (remote_services mux.others)) (map fed_of mux.services)
    (all_through HasNames IsNamed fed_of_remote (λ s h. h) (remote_services mux.others) remote)
    (all_through (λ (s : MuxService). IsKept s.provider × IsKept s.name) IsNamed fed_of (λ s h. h) mux.services own)

-- ---- their order

lower_through : (a b c : FedService) → has_lower_fed_id a b ≡ true → has_lower_fed_id b c ≡ true → has_lower_fed_id a c ≡ true
lower_through a b c h k = grind (arith, nat_tests)

to_tests : (services : List FedService) → DoFedAscend services → DoCome has_lower_fed_id services
to_tests [] h = tt
to_tests (s ∷ services) h =
    (all_map (λ (t : FedService). s.service < t.service) (λ (t : FedService). has_lower_fed_id s t ≡ true) (λ t less. grind (arith, nat_tests)) services h.0, to_tests services h.1)

of_tests : (services : List FedService) → DoCome has_lower_fed_id services → DoFedAscend services
of_tests [] h = tt
of_tests (s ∷ services) h =
    (all_map (λ (t : FedService). has_lower_fed_id s t ≡ true) (λ (t : FedService). s.service < t.service) (λ t less. grind (arith, nat_tests)) services h.0, of_tests services h.1)

own_ascend : (services : List MuxService) → DoAscend services → DoFedAscend (map fed_of services)
own_ascend [] h = tt
own_ascend (s ∷ services) h = (all_to_map (λ (t : FedService). s.service < t.service) fed_of services h.0, own_ascend services h.1)

-- no service there has this one's id
abbrev IsNew : List FedService → FedService → Type 0
IsNew done s = AllByRecursion (λ (t : FedService). s.service ≢ t.service) done

beside : (s t : FedService) → s.service ≢ t.service → has_lower_fed_id s t ≡ false → has_lower_fed_id t s ≡ true
beside s t differ above = elim (cases_Bool (s.service == t.service)) [
  | inl e ↦ absurd (differ (eqb-true s.service t.service e))
  | inr e ↦ grind (arith, nat_tests)
]

-- services of new ids, each at its place
all_ascend : (new done : List FedService) → DoCome has_lower_fed_id done → AreDifferent (map (λ (s : FedService). s.service) new) → AllByRecursion (IsNew done) new → DoCome has_lower_fed_id (all_placed has_lower_fed_id new done)
all_ascend [] done d once apart = d
all_ascend (s ∷ new) done d once apart =
    all_ascend new (placed has_lower_fed_id s done)
    (come_with has_lower_fed_id lower_through s done (all_map (λ (t : FedService). s.service ≢ t.service) (λ (t : FedService). has_lower_fed_id s t ≡ false → has_lower_fed_id t s ≡ true) (beside s) done apart.0) d)
    once.1
    (all_two (λ (t : FedService). s.service ≢ t.service) (IsNew done) (IsNew (placed has_lower_fed_id s done)) (λ t differ h. all_with (λ (u : FedService). t.service ≢ u.service) has_lower_fed_id s done (λ e. differ (sym e)) h)
    new (all_of_map (λ m. s.service ≢ m) (λ (t : FedService). t.service) new once.0) apart.1)

-- numbers that differ in one list do so in its parts
pub different_parts : (xs ys : List ℕ) → AreDifferent (xs ++ ys) → AreDifferent xs × AreDifferent ys
different_parts [] ys h = (tt, h)
different_parts (x ∷ xs) ys h = (let rest = different_parts xs ys h.1 in ((all_front (λ m. x ≢ m) xs ys h.0, rest.0), rest.1))

across_different : (xs ys : List ℕ) → AreDifferent (xs ++ ys) → AllByRecursion (λ y. AllByRecursion (λ x. y ≢ x) xs) ys
across_different [] ys h = each_unit ys
across_different (x ∷ xs) ys h =
    all_two (λ y. x ≢ y) (λ y. AllByRecursion (λ z. y ≢ z) xs) (λ y. AllByRecursion (λ z. y ≢ z) (x ∷ xs)) (λ y differ rest. ((λ e. differ (sym e)), rest)) ys
    (all_behind (λ m. x ≢ m) xs ys h.0) (across_different xs ys h.1)

remote_ids : (services : List RemoteService) → map (λ (s : FedService). s.service) (map fed_of_remote services) ≡ map (λ (s : RemoteService). s.service) services
remote_ids [] = refl
remote_ids (s ∷ services) = ap (λ (ids : List ℕ). s.service ∷ ids) (remote_ids services)

-- they ascend
pub fed_ascend : (mux : Mux) → IsSound mux → DoFedAscend (fed_services mux)
fed_ascend mux sound =
    let own = map (λ (s : MuxService). s.service) mux.services in
    let remote = remote_services mux.others in
    let ids = map (λ (s : RemoteService). s.service) remote in
    let apart = all_of_map (λ n. AllByRecursion (λ x. n ≢ x) own) (λ (s : RemoteService). s.service) remote (across_different own ids sound.others.once) in
    of_tests (fed_services mux)
    (all_ascend (map fed_of_remote remote) (map fed_of mux.services) (to_tests (map fed_of mux.services) (own_ascend mux.services sound.ascend))
    (subst AreDifferent (sym (remote_ids remote)) (different_parts own ids sound.others.once).1)
    (all_through (λ (s : RemoteService). AllByRecursion (λ x. s.service ≢ x) own) (IsNew (map fed_of mux.services)) fed_of_remote
    (λ s h. all_to_map (λ (t : FedService). s.service ≢ t.service) fed_of mux.services (all_of_map (λ x. s.service ≢ x) (λ (t : MuxService). t.service) mux.services h)) remote apart))

-- ---- where the code walks the services of a multiplex

remote_any : (id : ℕ) (services : List RemoteService) → list_any (λ (s : RemoteService). s.service == id) services ≡ list_any (λ (s : FedService). s.service == id) (map fed_of_remote services)
remote_any id [] = refl
remote_any id (s ∷ services) = ap (λ (b : Bool). (s.service == id) || b) (remote_any id services)

own_any : (id : ℕ) (services : List MuxService) → list_any (λ (s : MuxService). s.service == id) services ≡ list_any (λ (s : FedService). s.service == id) (map fed_of services)
own_any id [] = refl
own_any id (s ∷ services) = ap (λ (b : Bool). (s.service == id) || b) (own_any id services)

ids_any : (id : ℕ) (services : List FedService) → list_any (λ (s : FedService). s.service == id) services ≡ list_any (λ (n : ℕ). n == id) (map (λ (s : FedService). s.service) services)
ids_any id [] = refl
ids_any id (s ∷ services) = ap (λ (b : Bool). (s.service == id) || b) (ids_any id services)

-- whether one has this id: an own service, or one of another stream
pub any_either : (id : ℕ) (mux : Mux)
    → (list_any (λ (s : MuxService). s.service == id) mux.services || list_any (λ (s : RemoteService). s.service == id) (remote_services mux.others)) ≡ list_any (λ (n : ℕ). n == id) (fed_ids mux)
any_either id mux =
    let remote = remote_services mux.others in
    rw (own_any id mux.services, remote_any id remote)
    (sym (any_placed (λ (s : FedService). s.service == id) has_lower_fed_id (map fed_of_remote remote) (map fed_of mux.services)) ∙ ids_any id (fed_services mux))

-- ---- the feed of a service

-- each is found by its id
pub feeds_found : (services : List FedService) → DoFedAscend services → AllByRecursion (λ (s : FedService). feed_of services s.service ≡ s.feed) services
feeds_found [] ascend = tt
feeds_found (s ∷ services) ascend = (
  rw (eq-eqb s.service s.service refl) refl,
  all_two (λ (t : FedService). s.service < t.service) (λ (t : FedService). feed_of services t.service ≡ t.feed) (λ (t : FedService). feed_of (s ∷ services) t.service ≡ t.feed)
      (λ t above found. rw (other s.service t.service above) found) services ascend.0 (feeds_found services ascend.1),
)
  where
    other : (m n : ℕ) → m < n → (m == n) ≡ false
    other m n l = grind (arith, nat_tests)

-- what holds of each holds of the first one that passes
of_found : {X : Type 0} (P : X → Type 0) (test : X → Bool) (xs : List X) (x : X) → find test xs ≡ Some x → AllByRecursion P xs → P x × (test x ≡ true)
of_found P test [] x e h = cc e
of_found P test (y ∷ xs) x e h = elim (cases_Bool (test y)) [
  | inl is ↦
      let found : Some y ≡ Some x = rw is at e in
      let same : y ≡ x = cc found in
      subst (λ z. P z × (test z ≡ true)) same (h.0, is)
  | inr other ↦ of_found P test xs x (rw other at e) h.1
]

found_feeds : (mux : Mux) → IsSound mux
    → AllByRecursion (λ (s : FedService). feed_of (fed_services mux) s.service ≡ s.feed) (map fed_of_remote (remote_services mux.others)) × AllByRecursion (λ (s : FedService). feed_of (fed_services mux) s.service ≡ s.feed) (map fed_of mux.services)
found_feeds mux sound =
    of_placed (λ (s : FedService). feed_of (fed_services mux) s.service ≡ s.feed) has_lower_fed_id (map fed_of_remote (remote_services mux.others)) (map fed_of mux.services)
    (feeds_found (fed_services mux) (fed_ascend mux sound))

none_any : {X : Type 0} (test : X → Bool) (xs : List X) → find test xs ≡ None → list_any test xs ≡ false
none_any test [] e = refl
none_any test (x ∷ xs) e = elim (cases_Bool (test x)) [
  | inl is ↦ absurd (let w : Some x ≡ None = rw is at e in cc w)
  | inr other ↦ rw other (none_any test xs (rw other at e))
]

any_none : {X : Type 0} (test : X → Bool) (xs : List X) → list_any test xs ≡ false → find test xs ≡ None
any_none test [] e = refl
any_none test (x ∷ xs) e = elim (cases_Bool (test x)) [
  | inl is ↦ absurd (let w : true ≡ false = rw is at e in cc w)
  | inr other ↦ rw other (any_none test xs (rw other at e))
]

-- whether one is found, by whether one passes
pub found_any : {X Y : Type 0} (f : X → Y) (test : X → Bool) (xs : List X) → is_some (option_map f (find test xs)) ≡ list_any test xs
found_any f test [] = refl
found_any f test (x ∷ xs) = elim (cases_Bool (test x)) [
  | inl is ↦ rw is refl
  | inr other ↦ rw other (found_any f test xs)
]

map_found : {X Y : Type 0} (f : X → Y) (o : Option X) (y : Y) → option_map f o ≡ Some y → (x : X) × ((o ≡ Some x) × (f x ≡ y))
map_found f None y e = cc e
map_found f (Some x) y e = (x, (refl, (let w : Some (f x) ≡ Some y = e in cc w)))

map_none : {X Y : Type 0} (f : X → Y) (o : Option X) → option_map f o ≡ None → o ≡ None
map_none f None e = refl
map_none f (Some x) e = absurd (let w : Some (f x) ≡ None = e in cc w)

-- the feed of an own service, and of one of another stream
pub own_feed : (mux : Mux) → IsSound mux → (id feed : ℕ) → option_map (λ (s : MuxService). s.feed) (find (λ (s : MuxService). s.service == id) mux.services) ≡ Some feed → feed ≡ feed_of (fed_services mux) id
own_feed mux sound id feed e =
    let (s, found) = map_found (λ (t : MuxService). t.feed) (find (λ (t : MuxService). t.service == id) mux.services) feed e in
    let all = all_of_map (λ (t : FedService). feed_of (fed_services mux) t.service ≡ t.feed) fed_of mux.services (found_feeds mux sound).1 in
    let is = of_found (λ (t : MuxService). feed_of (fed_services mux) t.service ≡ t.feed) (λ (t : MuxService). t.service == id) mux.services s found.0 all in
    sym found.1 ∙ sym is.0 ∙ ap (feed_of (fed_services mux)) (eqb-true s.service id is.1)

pub remote_feed : (mux : Mux) → IsSound mux → (id feed : ℕ) → option_map (λ (s : RemoteService). s.feed) (find (λ (s : RemoteService). s.service == id) (remote_services mux.others)) ≡ Some feed
    → feed ≡ feed_of (fed_services mux) id
remote_feed mux sound id feed e =
    let remote = remote_services mux.others in
    let (s, found) = map_found (λ (t : RemoteService). t.feed) (find (λ (t : RemoteService). t.service == id) remote) feed e in
    let all = all_of_map (λ (t : FedService). feed_of (fed_services mux) t.service ≡ t.feed) fed_of_remote remote (found_feeds mux sound).0 in
    let is = of_found (λ (t : RemoteService). feed_of (fed_services mux) t.service ≡ t.feed) (λ (t : RemoteService). t.service == id) remote s found.0 all in
    sym found.1 ∙ sym is.0 ∙ ap (feed_of (fed_services mux)) (eqb-true s.service id is.1)

-- and where no service has this id
pub no_feed : (mux : Mux) (id : ℕ) → option_map (λ (s : MuxService). s.feed) (find (λ (s : MuxService). s.service == id) mux.services) ≡ None
    → option_map (λ (s : RemoteService). s.feed) (find (λ (s : RemoteService). s.service == id) (remote_services mux.others)) ≡ None → 0 ≡ feed_of (fed_services mux) id
no_feed mux id own remote =
    let a = none_any (λ (s : MuxService). s.service == id) mux.services (map_none (λ (s : MuxService). s.feed) (find (λ (s : MuxService). s.service == id) mux.services) own) in
    let b = none_any (λ (s : RemoteService). s.service == id) (remote_services mux.others) (map_none (λ (s : RemoteService). s.feed) (find (λ (s : RemoteService). s.service == id) (remote_services mux.others)) remote) in
    let c : (false || false) ≡ list_any (λ (n : ℕ). n == id) (fed_ids mux) = rw (a, b) at (any_either id mux) in
    let d = any_none (λ (s : FedService). s.service == id) (fed_services mux) (ids_any id (fed_services mux) ∙ sym c) in
    sym (ap (λ (o : Option FedService). unwrap_or (option_map (λ (s : FedService). s.feed) o) 0) d)

-- whether an own one has this id, or else one of another stream
pub has_own : (mux : Mux) (id : ℕ) → is_some (option_map (λ (s : MuxService). s.feed) (find (λ (s : MuxService). s.service == id) mux.services)) ≡ true → list_any (λ (n : ℕ). n == id) (fed_ids mux) ≡ true
has_own mux id e =
    let own = found_any (λ (s : MuxService). s.feed) (λ (s : MuxService). s.service == id) mux.services in
    sym (any_either id mux) ∙ ap (λ (b : Bool). b || list_any (λ (s : RemoteService). s.service == id) (remote_services mux.others)) (sym own ∙ e)

pub has_other : (mux : Mux) (id : ℕ) → is_some (option_map (λ (s : MuxService). s.feed) (find (λ (s : MuxService). s.service == id) mux.services)) ≡ false
    → is_some (option_map (λ (s : RemoteService). s.feed) (find (λ (s : RemoteService). s.service == id) (remote_services mux.others))) ≡ list_any (λ (n : ℕ). n == id) (fed_ids mux)
has_other mux id e =
    let own = found_any (λ (s : MuxService). s.feed) (λ (s : MuxService). s.service == id) mux.services in
    let other = found_any (λ (s : RemoteService). s.feed) (λ (s : RemoteService). s.service == id) (remote_services mux.others) in
    other ∙ ap (λ (b : Bool). b || list_any (λ (s : RemoteService). s.service == id) (remote_services mux.others)) (sym e ∙ own) ∙ any_either id mux

-- ---- one service after another

find_append : {X : Type 0} (test : X → Bool) (xs ys : List X) → find test xs ≡ None → find test (xs ++ ys) ≡ find test ys
find_append test [] ys e = refl
find_append test (x ∷ xs) ys e = elim (cases_Bool (test x)) [
  | inl is ↦ absurd (let w : Some x ≡ None = rw is at e in cc w)
  | inr other ↦ rw other (find_append test xs ys (rw other at e))
]

-- the first that passes from a place on, where none did before it
pub found_from : {X Y : Type 0} (f : X → List Y) (test : Y → Bool) (xs : List X) (i : ℕ) (x : X) → i < length xs → x ≡ get_or xs i x → find test (flat_map f (take i xs)) ≡ None
    → find test (flat_map f (take (i + 1) xs)) ≡ find test (f x)
found_from f test xs i x lt is none =
    ap (λ l. find test (flat_map f l)) (take_more xs i x lt ∙ ap (λ y. take i xs ++ y ∷ []) (sym is))
    ∙ ap (find test) (flat_map-append f (take i xs) (x ∷ []) ∙ ap (λ l. flat_map f (take i xs) ++ l) (append-nil (f x)))
    ∙ find_append test (flat_map f (take i xs)) (f x) none

-- and it is the first of all
pub found_later : {X Y : Type 0} (f : X → List Y) (test : Y → Bool) (xs : List X) (i : ℕ) (x : X) (y : Y) → i < length xs → x ≡ get_or xs i x → find test (flat_map f (take i xs)) ≡ None → find test (f x) ≡ Some y
    → find test (flat_map f xs) ≡ Some y
found_later f test xs i x y lt is none here =
    ap (λ l. find test (flat_map f l)) (sym (take-append-drop (i + 1) xs))
    ∙ ap (find test) (flat_map-append f (take (i + 1) xs) (drop (i + 1) xs))
    ∙ find_first test (flat_map f (take (i + 1) xs)) (flat_map f (drop (i + 1) xs)) y (found_from f test xs i x lt is none ∙ here)
  where
    find_first : {Z : Type 0} (test : Z → Bool) (front back : List Z) (z : Z) → find test front ≡ Some z → find test (front ++ back) ≡ Some z
    find_first test [] back z e = cc e
    find_first test (a ∷ front) back z e = elim (cases_Bool (test a)) [
      | inl is ↦ rw is (rw is at e)
      | inr other ↦ rw other (find_first test front back z (rw other at e))
    ]

pub feed_later : {X Y : Type 0} (g : X → List Y) (f : Y → ℕ) (test : Y → Bool) (xs : List X) (i : ℕ) (x : X) (n : ℕ) → i < length xs → x ≡ get_or xs i x → find test (flat_map g (take i xs)) ≡ None
    → option_map f (find test (g x)) ≡ Some n → Some n ≡ option_map f (find test (flat_map g xs))
feed_later g f test xs i x n lt is none e =
    let (y, found) = map_found f (find test (g x)) n e in
    sym (ap (option_map f) (found_later g test xs i x y lt is none found.0) ∙ ap Some found.1)

pub none_next : {X Y : Type 0} (g : X → List Y) (f : Y → ℕ) (test : Y → Bool) (xs : List X) (i : ℕ) (x : X) → i < length xs → x ≡ get_or xs i x → find test (flat_map g (take i xs)) ≡ None
    → option_map f (find test (g x)) ≡ None → find test (flat_map g (take (i + 1) xs)) ≡ None
none_next g f test xs i x lt is none e = found_from g test xs i x lt is none ∙ map_none f (find test (g x)) e

pub none_whole : {X Y : Type 0} (g : X → List Y) (f : Y → ℕ) (test : Y → Bool) (xs : List X) (i : ℕ) → length xs ≤ i → find test (flat_map g (take i xs)) ≡ None → None ≡ option_map f (find test (flat_map g xs))
none_whole g f test xs i l none = sym (ap (λ ys. option_map f (find test (flat_map g ys))) (sym (take_all i xs l)) ∙ ap (option_map f) none)
