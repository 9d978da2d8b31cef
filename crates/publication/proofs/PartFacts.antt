-- The parts of a guide that its services have.
use Rattle.std.proofs.Common.{◌≡◌, ◌≢◌, ℕ, ◌<◌, ◌==◌, ◌||◌, Bool, true, false, List, [], ◌∷◌, ◌++◌, Bor, map, get_or, refl, sym, ap, ap₂, ◌∙◌, subst, eq-eqb, eqb-true}
use Rattle.std.specs.Prelude.{cond, flat_map, ◌+◌, length, drop, Option, Some, None, is_some, unwrap_or, option_map, IfSome, slice_get}
use Rattle.std.specs.List.{AllByRecursion, list_any}
use Rattle.std.specs.Option.{option_copied}
use Rattle.std.proofs.Math.Bool.{or-true}
use Rattle.std.proofs.lemmas.List.{drop_more, map-append}
use Rattle.std.proofs.lemmas.Bool.{false≢true, ne_eqb}
use Rattle.std.proofs.lemmas.List.Elements.{All-from_recursion}
use Rattle.std.proofs.lemmas.Option.{get_or_from_slice_get, slice_get-map, slice_get_read}
use Rattle.si_lists.proofs.Lists.{all_behind, all_front, all_map, all_through, all_to_map}
use Rattle.guide_model.specs.declared.guide.Guide.{Guide}
use Rattle.guide_model.specs.declared.guide.ServiceGuide.{ServiceGuide}
use Rattle.mux_model.specs.declared.mux.MuxService.{MuxService}
use Rattle.mux_model.specs.declared.mux.Mux.{Mux}
use Rattle.mux_model.specs.declared.mux.RemoteService.{RemoteService}
use Rattle.mux_model.specs.declared.mux.Other.{Other}
use Rattle.mux_model.specs.Sound.{IsSound, AreDifferent, remote_services}
use Rattle.mux_model.specs.Fed.{fed_ids}
use Rattle.mux_model.proofs.FedFacts.{any_either, different_parts}
use Rattle.publication.specs.Parts.{part_in, no_part, part_of, own_guide, remote_guide}
use Rattle.publication.specs.Laws.{HasPartsOf}
use Rattle.publication.specs.Tables.{HasServicesOf}

abbrev ids : List ServiceGuide → List ℕ
ids parts = map (λ (part : ServiceGuide). part.service) parts

abbrev found : ℕ → List ServiceGuide → ServiceGuide
found id parts = unwrap_or (part_in id parts) (no_part id)

-- ---- the part with an id

id_found : (id : ℕ) (parts : List ServiceGuide) → (found id parts).service ≡ id
id_found id [] = refl
id_found id (p ∷ ps) = by (p.service == id) refl (id_found id ps)
  where
    by : (b : Bool) → (p.service == id) ≡ b → (found id ps).service ≡ id → (unwrap_or (cond b (Some p) (part_in id ps)) (no_part id)).service ≡ id
    by true e rest = eqb-true p.service id e
    by false e rest = rest

pub part_id : (guide : Guide) (id : ℕ) → (part_of guide id).service ≡ id
part_id guide id = id_found id guide.services

-- what holds of each part holds of the one that is found
holds_of_found : (P : ServiceGuide → Type 0) (id : ℕ) (parts : List ServiceGuide) → AllByRecursion P parts → is_some (part_in id parts) ≡ true → P (found id parts)
holds_of_found P id [] all there = cc
holds_of_found P id (p ∷ ps) all there = by (p.service == id) there (holds_of_found P id ps all.1)
  where
    by : (b : Bool) → is_some (cond b (Some p) (part_in id ps)) ≡ true → (is_some (part_in id ps) ≡ true → P (found id ps)) → P (unwrap_or (cond b (Some p) (part_in id ps)) (no_part id))
    by true h rest = all.0
    by false h rest = rest h

-- or of the empty one
holds_of_any : (P : ServiceGuide → Type 0) (id : ℕ) → P (no_part id) → (parts : List ServiceGuide) → AllByRecursion P parts → P (found id parts)
holds_of_any P id none [] all = none
holds_of_any P id none (p ∷ ps) all = by (p.service == id) (holds_of_any P id none ps all.1)
  where
    by : (b : Bool) → P (found id ps) → P (unwrap_or (cond b (Some p) (part_in id ps)) (no_part id))
    by true rest = all.0
    by false rest = rest

-- ---- the search

-- the first part of those from a place on
abbrev first_or : ℕ → ServiceGuide → List ServiceGuide → Option ServiceGuide
first_or id part parts = cond (part.service == id) (Some part) (part_in id parts)

-- it is the part with this place, or none up to there
module _ (id : ℕ) (parts : List ServiceGuide) (i : ℕ) (part : ServiceGuide) (lt : i < length parts) (at : slice_get parts i ≡ Some part)
    (so_far : part_in id parts ≡ part_in id (drop i parts)) where
  first : part_in id parts ≡ first_or id part (drop (i + 1) parts)
  first =
      so_far ∙ ap (part_in id) (drop_more parts i part lt)
      ∙ ap (λ (p : ServiceGuide). first_or id p (drop (i + 1) parts)) (get_or_from_slice_get parts i part part at)

  pub part_here : part.service ≡ id → Some part ≡ part_in id parts
  part_here is = sym (first ∙ ap (λ (b : Bool). cond b (Some part) (part_in id (drop (i + 1) parts))) (eq-eqb part.service id is))

  pub part_later : (part.service ≡ id → ⊥) → part_in id parts ≡ part_in id (drop (i + 1) parts)
  part_later other = first ∙ ap (λ (b : Bool). cond b (Some part) (part_in id (drop (i + 1) parts))) (ne_eqb part.service id other)

-- what holds of each part holds of the one that is found
pub if_found : (P : ServiceGuide → Type 0) (id : ℕ) (parts : List ServiceGuide) → AllByRecursion P parts → IfSome (part_in id parts) P
if_found P id [] all = tt
if_found P id (p ∷ ps) all = by (p.service == id) (if_found P id ps all.1)
  where
    by : (b : Bool) → IfSome (part_in id ps) P → IfSome (cond b (Some p) (part_in id ps)) P
    by true rest = all.0
    by false rest = rest

-- the same of a part that is lent
pub if_copied : (P : ServiceGuide → Type 0) (lent : Option (Bor ServiceGuide)) (part : Option ServiceGuide) → option_copied lent ≡ part → IfSome part P
    → IfSome lent (λ (p : Bor ServiceGuide). P p.now)
if_copied P None part same h = tt
if_copied P (Some p) part same h = subst (λ (o : Option ServiceGuide). IfSome o P) (sym same) h

-- a part is found where its id stands among theirs
found_among : (id : ℕ) (parts : List ServiceGuide) → is_some (part_in id parts) ≡ list_any (λ n. n == id) (ids parts)
found_among id [] = refl
found_among id (p ∷ ps) = by (p.service == id) (found_among id ps)
  where
    by : (b : Bool) → is_some (part_in id ps) ≡ list_any (λ n. n == id) (ids ps) → is_some (cond b (Some p) (part_in id ps)) ≡ (b || list_any (λ n. n == id) (ids ps))
    by true rest = refl
    by false rest = rest

-- ---- the parts of the own services

-- each own service stands among all that feeds edit
abbrev IsFed : Mux → MuxService → Type 0
IsFed mux s = list_any (λ n. n == s.service) (fed_ids mux) ≡ true

among_themselves : (ss : List MuxService) → AllByRecursion (λ (s : MuxService). list_any (λ (t : MuxService). t.service == s.service) ss ≡ true) ss
among_themselves [] = tt
among_themselves (s ∷ ss) = (
  ap (λ (b : Bool). b || list_any (λ (t : MuxService). t.service == s.service) ss) (eq-eqb s.service s.service refl),
  all_map (λ (u : MuxService). list_any (λ (t : MuxService). t.service == u.service) ss ≡ true) (λ (u : MuxService). list_any (λ (t : MuxService). t.service == u.service) (s ∷ ss) ≡ true)
      (λ u e. ap (λ (b : Bool). (s.service == u.service) || b) e ∙ or-true (s.service == u.service)) ss (among_themselves ss),
)

own_fed : (mux : Mux) → AllByRecursion (IsFed mux) mux.services
own_fed mux =
    all_map (λ (s : MuxService). list_any (λ (t : MuxService). t.service == s.service) mux.services ≡ true) (IsFed mux) (λ s e. sym (any_either s.service mux) ∙ ap (λ (b : Bool). b || list_any (λ (t : RemoteService). t.service == s.service) (remote_services mux.others)) e)
    mux.services (among_themselves mux.services)

abbrev HasPart : Guide → MuxService → Type 0
HasPart guide s = is_some (part_in s.service guide.services) ≡ true

have_parts : (mux : Mux) (guide : Guide) → HasServicesOf mux guide → AllByRecursion (HasPart guide) mux.services
have_parts mux guide have =
    all_map (IsFed mux) (HasPart guide) (λ s e. found_among s.service guide.services ∙ ap (list_any (λ n. n == s.service)) have ∙ e) mux.services (own_fed mux)

-- so none is missing
pub never_missing : (mux : Mux) (guide : Guide) → HasServicesOf mux guide → (i : ℕ) (s : MuxService) → i < length mux.services → s ≡ get_or mux.services i s
    → part_in s.service guide.services ≡ None → ⊥
never_missing mux guide have i s lt is none =
    let there : HasPart guide s = subst (HasPart guide) (sym is) (All-from_recursion (HasPart guide) mux.services (have_parts mux guide have) i s lt) in
    false≢true (sym (ap is_some none) ∙ there)

-- the part of the service with this place
pub own_at : (mux : Mux) (guide : Guide) (i : ℕ) (s : MuxService) (part : ServiceGuide) → i < length mux.services → s ≡ get_or mux.services i s → part_of guide s.service ≡ part
    → slice_get (own_guide mux guide) i ≡ Some part
own_at mux guide i s part lt is found =
    let of = λ (t : MuxService). part_of guide t.service in
    slice_get-map of mux.services i ∙ ap (option_map of) (slice_get_read mux.services (length mux.services) i s refl lt is) ∙ ap Some found

-- what holds of each part of a guide holds of those of the own services
pub of_parts : (P : ServiceGuide → Type 0) (mux : Mux) (guide : Guide) → HasServicesOf mux guide → AllByRecursion P guide.services
    → AllByRecursion (λ (s : MuxService). P (part_of guide s.service)) mux.services
of_parts P mux guide have all =
    all_map (HasPart guide) (λ (s : MuxService). P (part_of guide s.service)) (λ s there. holds_of_found P s.service guide.services all there) mux.services (have_parts mux guide have)

pub of_own : (P : ServiceGuide → Type 0) (mux : Mux) (guide : Guide) → HasServicesOf mux guide → AllByRecursion P guide.services → AllByRecursion P (own_guide mux guide)
of_own P mux guide have all = all_to_map P (λ (s : MuxService). part_of guide s.service) mux.services (of_parts P mux guide have all)

-- and, where it holds of an empty part, whatever services the guide has: of the parts of services with any ids
pub parts_of_any : {X : Type 0} (P : ServiceGuide → Type 0) → ((id : ℕ) → P (no_part id)) → (guide : Guide) (id : X → ℕ) (xs : List X) → AllByRecursion P guide.services
    → AllByRecursion (λ (x : X). P (part_of guide (id x))) xs
parts_of_any P none guide id [] all = tt
parts_of_any P none guide id (x ∷ xs) all = (holds_of_any P (id x) (none (id x)) guide.services all, parts_of_any P none guide id xs all)

pub of_any : (P : ServiceGuide → Type 0) → ((id : ℕ) → P (no_part id)) → (mux : Mux) (guide : Guide) → AllByRecursion P guide.services → AllByRecursion P (own_guide mux guide)
of_any P none mux guide all =
    all_to_map P (λ (s : MuxService). part_of guide s.service) mux.services (parts_of_any P none guide (λ (s : MuxService). s.service) mux.services all)

pub remote_of_any : (P : ServiceGuide → Type 0) → ((id : ℕ) → P (no_part id)) → (guide : Guide) (other : Other) → AllByRecursion P guide.services → AllByRecursion P (remote_guide guide other)
remote_of_any P none guide other all =
    all_to_map P (λ (s : RemoteService). part_of guide s.service) other.services (parts_of_any P none guide (λ (s : RemoteService). s.service) other.services all)

-- what holds of services by their ids holds of their parts
pub by_ids : (P : ℕ → Type 0) (Q : MuxService → Type 0) → ((s : MuxService) → Q s → P s.service) → (mux : Mux) (guide : Guide) → AllByRecursion Q mux.services
    → AllByRecursion (λ (part : ServiceGuide). P part.service) (own_guide mux guide)
by_ids P Q each mux guide all =
    all_through Q (λ (part : ServiceGuide). P part.service) (λ (s : MuxService). part_of guide s.service) (λ s q. subst P (sym (part_id guide s.service)) (each s q)) mux.services all

pub by_remote_ids : (P : ℕ → Type 0) (Q : RemoteService → Type 0) → ((s : RemoteService) → Q s → P s.service) → (guide : Guide) (other : Other) → AllByRecursion Q other.services
    → AllByRecursion (λ (part : ServiceGuide). P part.service) (remote_guide guide other)
by_remote_ids P Q each guide other all =
    all_through Q (λ (part : ServiceGuide). P part.service) (λ (s : RemoteService). part_of guide s.service) (λ s q. subst P (sym (part_id guide s.service)) (each s q)) other.services all

-- ---- the parts of the services of other streams

abbrev HasRemotePart : Guide → RemoteService → Type 0
HasRemotePart guide s = is_some (part_in s.service guide.services) ≡ true

-- services among all that feeds edit have parts
remotes_among : (all : List RemoteService) → AllByRecursion (λ (s : RemoteService). list_any (λ (t : RemoteService). t.service == s.service) all ≡ true) all
remotes_among [] = tt
remotes_among (s ∷ ss) = (
  ap (λ (b : Bool). b || list_any (λ (t : RemoteService). t.service == s.service) ss) (eq-eqb s.service s.service refl),
  all_map (λ (u : RemoteService). list_any (λ (t : RemoteService). t.service == u.service) ss ≡ true) (λ (u : RemoteService). list_any (λ (t : RemoteService). t.service == u.service) (s ∷ ss) ≡ true)
      (λ u e. ap (λ (b : Bool). (s.service == u.service) || b) e ∙ or-true (s.service == u.service)) ss (remotes_among ss),
)

remote_parts : (mux : Mux) (guide : Guide) → HasServicesOf mux guide → AllByRecursion (HasRemotePart guide) (remote_services mux.others)
remote_parts mux guide have =
    all_map (λ (s : RemoteService). list_any (λ (t : RemoteService). t.service == s.service) (remote_services mux.others) ≡ true) (HasRemotePart guide)
    (λ s e. found_among s.service guide.services ∙ ap (list_any (λ n. n == s.service)) have ∙ sym (any_either s.service mux)
    ∙ ap (λ (b : Bool). list_any (λ (t : MuxService). t.service == s.service) mux.services || b) e ∙ or-true (list_any (λ (t : MuxService). t.service == s.service) mux.services))
    (remote_services mux.others) (remotes_among (remote_services mux.others))

-- what holds of the services of all other streams holds of each stream's
pub by_streams : (P : RemoteService → Type 0) (others : List Other) → AllByRecursion P (remote_services others) → AllByRecursion (λ (o : Other). AllByRecursion P o.services) others
by_streams P [] all = tt
by_streams P (o ∷ os) all = (all_front P o.services (remote_services os) all, by_streams P os (all_behind P o.services (remote_services os) all))

pub others_have : (mux : Mux) (guide : Guide) → HasServicesOf mux guide → AllByRecursion (HasPartsOf guide) mux.others
others_have mux guide have = by_streams (HasRemotePart guide) mux.others (remote_parts mux guide have)

-- what holds of each part of a guide holds of those of the services of a stream
pub of_remote : (P : ServiceGuide → Type 0) (guide : Guide) (other : Other) → HasPartsOf guide other → AllByRecursion P guide.services → AllByRecursion P (remote_guide guide other)
of_remote P guide other have all =
    all_through (HasRemotePart guide) P (λ (s : RemoteService). part_of guide s.service) (λ s there. holds_of_found P s.service guide.services all there) other.services have

-- so none is missing
pub never_missing_remote : (guide : Guide) (other : Other) → HasPartsOf guide other → (i : ℕ) (s : RemoteService) → i < length other.services → s ≡ get_or other.services i s
    → part_in s.service guide.services ≡ None → ⊥
never_missing_remote guide other have i s lt is none =
    let there : HasRemotePart guide s = subst (HasRemotePart guide) (sym is) (All-from_recursion (HasRemotePart guide) other.services have i s lt) in
    false≢true (sym (ap is_some none) ∙ there)

-- the part of the service with this place
pub remote_at : (guide : Guide) (other : Other) (i : ℕ) (s : RemoteService) (part : ServiceGuide) → i < length other.services → s ≡ get_or other.services i s → part_of guide s.service ≡ part
    → slice_get (remote_guide guide other) i ≡ Some part
remote_at guide other i s part lt is found =
    let of = λ (t : RemoteService). part_of guide t.service in
    slice_get-map of other.services i ∙ ap (option_map of) (slice_get_read other.services (length other.services) i s refl lt is) ∙ ap Some found

-- their ids are those of the services
pub own_ids : (guide : Guide) (ss : List MuxService) → ids (map (λ (s : MuxService). part_of guide s.service) ss) ≡ map (λ (s : MuxService). s.service) ss
own_ids guide [] = refl
own_ids guide (s ∷ ss) = ap₂ (λ (n : ℕ) (ns : List ℕ). n ∷ ns) (part_id guide s.service) (own_ids guide ss)

-- numbers that differ in one list: each of the first differs from each of the later ones
pub apart_parts : (xs ys : List ℕ) → AreDifferent (xs ++ ys) → AllByRecursion (λ (n : ℕ). AllByRecursion (λ (m : ℕ). n ≢ m) ys) xs
apart_parts [] ys different = tt
apart_parts (x ∷ xs) ys different = (all_behind (λ (m : ℕ). x ≢ m) xs ys different.0, apart_parts xs ys different.1)

-- no two own services have one id, and no two of other streams
pub own_different : (mux : Mux) (guide : Guide) → IsSound mux → AreDifferent (ids (own_guide mux guide))
own_different mux guide sound =
    subst AreDifferent (sym (own_ids guide mux.services))
    (different_parts (map (λ (s : MuxService). s.service) mux.services) (map (λ (s : RemoteService). s.service) (remote_services mux.others)) sound.others.once).0

remote_ids : (guide : Guide) (ss : List RemoteService) → ids (map (λ (s : RemoteService). part_of guide s.service) ss) ≡ map (λ (s : RemoteService). s.service) ss
remote_ids guide [] = refl
remote_ids guide (s ∷ ss) = ap₂ (λ (n : ℕ) (ns : List ℕ). n ∷ ns) (part_id guide s.service) (remote_ids guide ss)

all_remote_ids : (guide : Guide) (os : List Other) → ids (flat_map (remote_guide guide) os) ≡ map (λ (s : RemoteService). s.service) (remote_services os)
all_remote_ids guide [] = refl
all_remote_ids guide (o ∷ os) =
    map-append (λ (part : ServiceGuide). part.service) (remote_guide guide o) (flat_map (remote_guide guide) os)
    ∙ ap₂ (λ (xs ys : List ℕ). xs ++ ys) (remote_ids guide o.services) (all_remote_ids guide os)
    ∙ sym (map-append (λ (s : RemoteService). s.service) o.services (remote_services os))

pub remote_different : (mux : Mux) (guide : Guide) → IsSound mux → AreDifferent (ids (flat_map (remote_guide guide) mux.others))
remote_different mux guide sound =
    subst AreDifferent (sym (all_remote_ids guide mux.others))
    (different_parts (map (λ (s : MuxService). s.service) mux.services) (map (λ (s : RemoteService). s.service) (remote_services mux.others)) sound.others.once).1
