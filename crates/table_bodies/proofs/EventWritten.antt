-- The entry of an event shows that event.
use Rattle.std.proofs.Common.{◌≡◌, ℕ, suc, ◌-◌, ◌<◌, Bool, true, false, List, [], ◌∷◌, ◌++◌, length, map, Option, Some, None, IfSome, refl, sym, ap, ap₂, ◌∙◌, append_assoc, arith, if◌then◌else◌}
use Rattle.std.specs.Prelude.{◌==◌, ◌&&◌, not, filter, is_some, slice_index}
use Rattle.si_lists.proofs.Lists.{three_of}
use Rattle.std.specs.Option.{option_or}
use Rattle.std.specs.List.{flat_map, AllByRecursion}
use Rattle.std.proofs.lemmas.Grind.{flat_map-append}
use Rattle.std.proofs.lemmas.List.{append-nil}
use Rattle.std.proofs.lemmas.Slice.Eq.{bytes_eq-Decides}
use Rattle.guide_model.specs.Coding.{coded_text}
use Rattle.guide_model.specs.Cutting.{pieces}
use Rattle.guide_model.specs.Decoding.{IsKept}
use Rattle.guide_model.specs.declared.shown.Shown.{Shown}
use Rattle.guide_model.specs.declared.shown.Shown.TheVariants.{Text}
use Rattle.guide_model.proofs.PieceFacts.{pieces-join, pieces-kept}
use Rattle.guide_model.proofs.RoundTrip.{decoded-coded}
use Rattle.guide_model.specs.declared.event.Event.{Event}
use Rattle.guide_model.specs.declared.event.Genre.{Genre}
use Rattle.guide_model.specs.declared.event.Rating.{Rating}
use Rattle.guide_model.specs.declared.descriptor.RawDesc.{RawDesc}
use Rattle.guide_model.specs.Descriptors.{AreSoundDescriptors}
use Rattle.guide_model.proofs.SoundFacts.{none_made}
use Rattle.descriptors.specs.declared.short_event.ShortEvent.{ShortEvent}
use Rattle.descriptors.specs.declared.extended_event.ExtendedPiece.{ExtendedPiece}
use Rattle.descriptors.specs.Descriptors.{descriptor_bytes}
use Rattle.descriptors.specs.ShortEvent.{short_event_body, short_event_in}
use Rattle.descriptors.specs.ExtendedEvent.{extended_event_body, extended_event_fields, extended_event_in}
use Rattle.descriptors.specs.Content.{content_body, content_in, HasNibbles}
use Rattle.descriptors.specs.ParentalRating.{parental_rating_body, parental_rating_in, is_one_rating, HasThreeLetters}
use Rattle.descriptors.specs.EventDescriptors.{numbered, event_descriptors, content_of, made_of_event, rating_of}
use Rattle.descriptors.proofs.EventEntries.{content-reads_back, parental_rating-reads_back}
use Rattle.descriptors.proofs.Fields.{short_event-reads_back, extended_event-reads_back}
use Rattle.descriptors.proofs.Pieces.{few_pieces}
use Rattle.descriptors.specs.First.{first_in, said_by, without_first, always}
use Rattle.table_bodies.specs.ShownEvent as shows
use Rattle.table_bodies.proofs.FirstOnes.{HasNone, none_first, none_without, without_front}
use Rattle.table_bodies.specs.Eit.{IsTyped, IsCodable, shown_event}

-- ---- the descriptors of an event

abbrev short_value : Event → ShortEvent
short_value e = record { language = e.language; name = Text e.name; short = Text e.short }

abbrev short_desc : Event → RawDesc
short_desc e = record { tag = 0x4D; body = short_event_body (short_value e) }

abbrev piece_desc : ℕ → ℕ → List ℕ → List ℕ → RawDesc
piece_desc n last language piece = record { tag = 0x4E; body = extended_event_body (record { number = n; last = last; language = language; text = coded_text piece }) }

abbrev piece_descs : ℕ → ℕ → List ℕ → List (List ℕ) → List RawDesc
piece_descs n last language [] = []
piece_descs n last language (piece ∷ more) = piece_desc n last language piece ∷ piece_descs (suc n) last language more

abbrev genre_descs : List Genre → List RawDesc
genre_descs [] = []
genre_descs (g ∷ genres) = record { tag = 0x54; body = content_body (g ∷ genres) } ∷ []

abbrev rating_descs : Option Rating → List RawDesc
rating_descs None = []
rating_descs (Some r) = record { tag = 0x55; body = parental_rating_body (r ∷ []) } ∷ []

abbrev all_pieces : Event → List RawDesc
all_pieces e = piece_descs 0 (length (pieces e.extended) - 1) e.language (pieces e.extended)

abbrev pub descs_of : Event → List RawDesc
descs_of e = short_desc e ∷ (all_pieces e ++ (genre_descs e.genres ++ (rating_descs e.rating ++ e.descriptors)))

-- ---- their bytes

piece-bytes : (n last : ℕ) (language : List ℕ) (ps : List (List ℕ)) → numbered n last language ps ≡ flat_map descriptor_bytes (piece_descs n last language ps)
piece-bytes n last language [] = refl
piece-bytes n last language (p ∷ ps) = ap (λ (xs : List ℕ). descriptor_bytes (piece_desc n last language p) ++ xs) (piece-bytes (suc n) last language ps)

genre-bytes : (genres : List Genre) → content_of genres ≡ flat_map descriptor_bytes (genre_descs genres)
genre-bytes [] = refl
genre-bytes (g ∷ genres) = sym (append-nil (content_of (g ∷ genres)))

rating-bytes : (r : Option Rating) → rating_of r ≡ flat_map descriptor_bytes (rating_descs r)
rating-bytes None = refl
rating-bytes (Some r) = sym (append-nil (rating_of (Some r)))

pub desc-bytes : (e : Event) → event_descriptors e ≡ flat_map descriptor_bytes (descs_of e)
desc-bytes e =
    let short = descriptor_bytes (short_desc e) in
    let extended = flat_map descriptor_bytes (all_pieces e) in
    let genres = flat_map descriptor_bytes (genre_descs e.genres) in
    let rating = flat_map descriptor_bytes (rating_descs e.rating) in
    let further = flat_map descriptor_bytes e.descriptors in
    ap (λ (xs : List ℕ). short ++ xs ++ content_of e.genres ++ rating_of e.rating ++ further) (piece-bytes 0 (length (pieces e.extended) - 1) e.language (pieces e.extended))
    ∙ ap (λ (xs : List ℕ). short ++ extended ++ xs ++ rating_of e.rating ++ further) (genre-bytes e.genres)
    ∙ ap (λ (xs : List ℕ). short ++ extended ++ genres ++ xs ++ further) (rating-bytes e.rating)
    ∙ append_assoc (short ++ extended ++ genres) rating further
    ∙ append_assoc (short ++ extended) genres (rating ++ further)
    ∙ append_assoc short extended (genres ++ (rating ++ further))
    ∙ ap (λ (xs : List ℕ). short ++ (extended ++ (genres ++ xs))) (sym (flat_map-append descriptor_bytes (rating_descs e.rating) e.descriptors))
    ∙ ap (λ (xs : List ℕ). short ++ (extended ++ xs)) (sym (flat_map-append descriptor_bytes (genre_descs e.genres) (rating_descs e.rating ++ e.descriptors)))
    ∙ ap (λ (xs : List ℕ). short ++ xs) (sym (flat_map-append descriptor_bytes (all_pieces e) (genre_descs e.genres ++ (rating_descs e.rating ++ e.descriptors))))

-- ---- the further ones are of no kind that is made

-- none of short_event, extended_event and content, and beside a rating no parental_rating
record AreFurther (r : Option Rating) (ds : List RawDesc) : Type 0 where
  short : HasNone 0x4D ds
  extended : HasNone 0x4E ds
  content : HasNone 0x54 ds
  rating : IfSome r (λ r. HasNone 0x55 ds)

are_further : (r : Option Rating) (ds : List RawDesc) → AreSoundDescriptors (made_of_event (is_some r)) ds → AreFurther r ds
are_further None ds sound =
    let made = made_of_event false in
    record { short = none_made made 0x4D refl ds sound; extended = none_made made 0x4E refl ds sound; content = none_made made 0x54 refl ds sound; rating = tt }
are_further (Some r) ds sound =
    let made = made_of_event true in
    record {
      short = none_made made 0x4D refl ds sound;
      extended = none_made made 0x4E refl ds sound;
      content = none_made made 0x54 refl ds sound;
      rating = none_made made 0x55 refl ds sound;
    }

-- ---- what they show

short-shown : (e : Event) → IsTyped e → shows.short_of (descs_of e) ≡ short_value e
short-shown e q =
    ap (λ o. shows.short_or_none (option_or o (first_in 0x4D short_event_in (all_pieces e ++ (genre_descs e.genres ++ (rating_descs e.rating ++ e.descriptors))))))
    (short_event-reads_back (short_value e) (record { language = q.language; name = decoded-coded e.name q.name; short = decoded-coded e.short q.short }))

content-behind : (n last : ℕ) (language : List ℕ) (ps : List (List ℕ)) (ds : List RawDesc) → first_in 0x54 content_in (piece_descs n last language ps ++ ds) ≡ first_in 0x54 content_in ds
content-behind n last language [] ds = refl
content-behind n last language (p ∷ ps) ds = content-behind (suc n) last language ps ds

content-first : (genres : List Genre) (r : Option Rating) (ds : List RawDesc) → AllByRecursion HasNibbles genres → HasNone 0x54 ds
    → shows.genres_or_none (first_in 0x54 content_in (genre_descs genres ++ (rating_descs r ++ ds))) ≡ genres
content-first [] None ds fit none = ap shows.genres_or_none (none_first 0x54 content_in ds none)
content-first [] (Some r) ds fit none = ap shows.genres_or_none (none_first 0x54 content_in ds none)
content-first (g ∷ genres) r ds fit none = ap (λ o. shows.genres_or_none (option_or o (first_in 0x54 content_in (rating_descs r ++ ds)))) (content-reads_back (g ∷ genres) fit)

rating-behind : (n last : ℕ) (language : List ℕ) (ps : List (List ℕ)) (ds : List RawDesc) → first_in 0x55 parental_rating_in (piece_descs n last language ps ++ ds) ≡ first_in 0x55 parental_rating_in ds
rating-behind n last language [] ds = refl
rating-behind n last language (p ∷ ps) ds = rating-behind (suc n) last language ps ds

rating-first : (genres : List Genre) (r : Option Rating) (ds : List RawDesc) → IfSome r HasThreeLetters
    → shows.rating_of (genre_descs genres ++ (rating_descs r ++ ds)) ≡ option_or r (shows.rating_of ds)
rating-first [] None ds three = refl
rating-first (g ∷ genres) None ds three = refl
rating-first [] (Some r) ds three = ap (λ o. shows.first_rating (option_or o (first_in 0x55 parental_rating_in ds))) (parental_rating-reads_back (r ∷ []) (three, tt))
rating-first (g ∷ genres) (Some r) ds three = ap (λ o. shows.first_rating (option_or o (first_in 0x55 parental_rating_in ds))) (parental_rating-reads_back (r ∷ []) (three, tt))

pieces-shown : (n last : ℕ) (language : List ℕ) (ps : List (List ℕ)) (ds : List RawDesc) → last < 16 → length language ≡ 3
    → shows.pieces_in language (piece_descs n last language ps ++ ds) ≡ map coded_text ps ++ shows.pieces_in language ds
pieces-shown n last language [] ds lt three = refl
pieces-shown n last language (p ∷ ps) ds lt three =
    let piece : ExtendedPiece = record { number = n; last = last; language = language; text = coded_text p } in
    ap (λ o. shows.text_if language o ++ shows.pieces_in language (piece_descs (suc n) last language ps ++ ds)) (extended_event-reads_back piece (record { last = lt; language = three }))
    ∙ ap (λ (b : Bool). (if b then coded_text p ∷ [] else []) ++ shows.pieces_in language (piece_descs (suc n) last language ps ++ ds)) ((bytes_eq-Decides language language).1 refl)
    ∙ ap (λ xs. coded_text p ∷ xs) (pieces-shown (suc n) last language ps ds lt three)

none-pieces : (language : List ℕ) (ds : List RawDesc) → HasNone 0x4E ds → shows.pieces_in language ds ≡ []
none-pieces language [] none = refl
none-pieces language (d ∷ ds) none =
    ap (λ (b : Bool). shows.text_if language (if b then extended_event_in d.body else None) ++ shows.pieces_in language ds) none.0 ∙ none-pieces language ds none.1

no-pieces : (language : List ℕ) (genres : List Genre) (r : Option Rating) (ds : List RawDesc) → HasNone 0x4E ds
    → shows.pieces_in language (genre_descs genres ++ (rating_descs r ++ ds)) ≡ []
no-pieces language [] None ds none = none-pieces language ds none
no-pieces language [] (Some r) ds none = none-pieces language ds none
no-pieces language (g ∷ genres) None ds none = none-pieces language ds none
no-pieces language (g ∷ genres) (Some r) ds none = none-pieces language ds none

texts-shown : (ps : List (List ℕ)) → AllByRecursion IsKept ps → shows.texts_of (map coded_text ps) ≡ Some ps
texts-shown [] kept = refl
texts-shown (p ∷ ps) kept =
    ap (λ (s : Shown). shows.with_text s (shows.texts_of (map coded_text ps))) (decoded-coded p kept.0)
    ∙ ap (λ o. shows.with_text (Text p) o) (texts-shown ps kept.1)

extended-shown : (e : Event) → IsCodable e → IsTyped e → shows.joined (shows.pieces_in e.language (descs_of e)) ≡ Text e.extended
extended-shown e p q =
    let ps = pieces e.extended in
    let further = are_further e.rating e.descriptors p.limits.descriptors in
    let last : length ps - 1 < 16 = omega (arith, few_pieces e.extended q.extended.utf8 p.limits.extended) in
    let all : shows.pieces_in e.language (descs_of e) ≡ map coded_text ps =
    pieces-shown 0 (length ps - 1) e.language ps (genre_descs e.genres ++ (rating_descs e.rating ++ e.descriptors)) last q.language
    ∙ ap (λ (xs : List (List ℕ)). map coded_text ps ++ xs) (no-pieces e.language e.genres e.rating e.descriptors further.extended)
    ∙ append-nil (map coded_text ps) in
    ap shows.joined all
    ∙ ap (λ o. shows.joined_as o (map coded_text ps)) (texts-shown ps (pieces-kept e.extended q.extended))
    ∙ ap (λ (xs : List ℕ). Text xs) (pieces-join e.extended q.extended.utf8)

-- ---- what they leave

-- pieces stay where descriptors of another tag are looked for
pieces-stay : {A : Type 0} (tag : ℕ) (read : List ℕ → Option A) (whole : List ℕ → Bool) → (0x4E == tag) ≡ false → (n last : ℕ) (language : List ℕ) (ps : List (List ℕ)) (ds : List RawDesc)
    → without_first tag read whole (piece_descs n last language ps ++ ds) ≡ piece_descs n last language ps ++ without_first tag read whole ds
pieces-stay tag read whole apart n last language [] ds = refl
pieces-stay tag read whole apart n last language (p ∷ ps) ds =
    let d = piece_desc n last language p in
    let more = piece_descs (suc n) last language ps ++ ds in
    ap (λ (t : Bool). if is_some (if t then read d.body else None) then (if whole d.body then more else d ∷ more) else d ∷ without_first tag read whole more) apart
    ∙ ap (λ (xs : List RawDesc). d ∷ xs) (pieces-stay tag read whole apart (suc n) last language ps ds)

one-rating : (r : Rating) → HasThreeLetters r → is_one_rating (parental_rating_body (r ∷ [])) ≡ true
one-rating r three = let t = three_of r.country three in ap (λ (code : List ℕ). is_one_rating ((code ++ r.value ∷ []) ++ [])) t.3

abbrev without_rating : List RawDesc → List RawDesc
without_rating ds = without_first 0x55 parental_rating_in is_one_rating ds

rating-shown : (r : Rating) (ds : List RawDesc) → HasThreeLetters r → HasNone 0x55 ds → without_rating (rating_descs (Some r) ++ ds) ≡ without_rating ds
rating-shown r ds three none =
    let d : RawDesc = record { tag = 0x55; body = parental_rating_body (r ∷ []) } in
    without_front 0x55 parental_rating_in is_one_rating d ds (r ∷ []) (parental_rating-reads_back (r ∷ []) (three, tt)) (one-rating r three)
    ∙ sym (none_without 0x55 parental_rating_in is_one_rating ds none)

rating-left : (genres : List Genre) (r : Option Rating) (ds : List RawDesc) → IfSome r HasThreeLetters → IfSome r (λ r. HasNone 0x55 ds)
    → without_rating (genre_descs genres ++ (rating_descs r ++ ds)) ≡ genre_descs genres ++ without_rating ds
rating-left [] None ds three none = refl
rating-left (g ∷ genres) None ds three none = refl
rating-left [] (Some r) ds three none = rating-shown r ds three none
rating-left (g ∷ genres) (Some r) ds three none = ap (λ (xs : List RawDesc). record { tag = 0x54; body = content_body (g ∷ genres) } ∷ xs) (rating-shown r ds three none)

genres-left : (genres : List Genre) (ds : List RawDesc) → AllByRecursion HasNibbles genres → HasNone 0x54 ds → without_first 0x54 content_in always (genre_descs genres ++ ds) ≡ ds
genres-left [] ds fit none = none_without 0x54 content_in always ds none
genres-left (g ∷ genres) ds fit none =
    let d : RawDesc = record { tag = 0x54; body = content_body (g ∷ genres) } in
    without_front 0x54 content_in always d ds (g ∷ genres) (content-reads_back (g ∷ genres) fit) refl

-- what holds of each of a list holds of each that is left
all-left : {A : Type 0} (P : RawDesc → Type 0) (tag : ℕ) (read : List ℕ → Option A) (whole : List ℕ → Bool) (ds : List RawDesc)
    → AllByRecursion P ds → AllByRecursion P (without_first tag read whole ds)
all-left P tag read whole [] h = tt
all-left P tag read whole (d ∷ ds) h = go (is_some (said_by tag read d)) (whole d.body) (all-left P tag read whole ds h.1)
  where
    go : (said shown : Bool) → AllByRecursion P (without_first tag read whole ds)
        → AllByRecursion P (if said then (if shown then ds else d ∷ ds) else d ∷ without_first tag read whole ds)
    go true true later = h.1
    go true false later = h
    go false shown later = (h.0, later)

-- the first of each kind is shown whole
firsts-left : (e : Event) → IsTyped e → AllByRecursion HasNibbles e.genres → AreFurther e.rating e.descriptors
    → shows.without_firsts (descs_of e) ≡ all_pieces e ++ without_rating e.descriptors
firsts-left e q levels further =
    let last = length (pieces e.extended) - 1 in
    let ps = pieces e.extended in
    let ds = e.descriptors in
    let rest = all_pieces e ++ (genre_descs e.genres ++ (rating_descs e.rating ++ ds)) in
    let kept = short_desc e ∷ without_first 0x4D short_event_in always rest in
    ap (λ o. without_first 0x54 content_in always (without_rating (if is_some o then rest else kept)))
    (short_event-reads_back (short_value e) (record { language = q.language; name = decoded-coded e.name q.name; short = decoded-coded e.short q.short }))
    ∙ ap (without_first 0x54 content_in always)
    (pieces-stay 0x55 parental_rating_in is_one_rating refl 0 last e.language ps (genre_descs e.genres ++ (rating_descs e.rating ++ ds))
    ∙ ap (λ (xs : List RawDesc). all_pieces e ++ xs) (rating-left e.genres e.rating ds q.rating further.rating))
    ∙ pieces-stay 0x54 content_in always refl 0 last e.language ps (genre_descs e.genres ++ without_rating ds)
    ∙ ap (λ (xs : List RawDesc). all_pieces e ++ xs)
    (genres-left e.genres (without_rating ds) levels (all-left (λ (d : RawDesc). (d.tag == 0x54) ≡ false) 0x55 parental_rating_in is_one_rating ds further.content))

-- a piece has no items
no-items : (number last : ℕ) (language text : List ℕ) → length language ≡ 3 → (slice_index (extended_event_fields number last language text) 4 == 0) ≡ true
no-items number last language text three =
    let t = three_of language three in
    ap (λ (code : List ℕ). slice_index (extended_event_fields number last code text) 4 == 0) t.3

plain : (n last : ℕ) (language p : List ℕ) → last < 16 → length language ≡ 3 → shows.is_plain_piece language (piece_desc n last language p) ≡ true
plain n last language p lt three =
    let piece : ExtendedPiece = record { number = n; last = last; language = language; text = coded_text p } in
    ap (λ (b : Bool). b && shows.is_in_language language (extended_event_in (extended_event_body piece))) (no-items n last language (coded_text p) three)
    ∙ ap (shows.is_in_language language) (extended_event-reads_back piece (record { last = lt; language = three }))
    ∙ (bytes_eq-Decides language language).1 refl

abbrev but_pieces : List ℕ → List RawDesc → List RawDesc
but_pieces language ds = filter (λ d. not (shows.is_plain_piece language d)) ds

others-stay : (language : List ℕ) (ds : List RawDesc) → HasNone 0x4E ds → but_pieces language ds ≡ ds
others-stay language [] none = refl
others-stay language (d ∷ ds) none =
    let more = but_pieces language ds in
    ap (λ (b : Bool). if not (b && (slice_index d.body 4 == 0 && shows.is_in_language language (extended_event_in d.body))) then d ∷ more else more) none.0
    ∙ ap (λ (xs : List RawDesc). d ∷ xs) (others-stay language ds none.1)

pieces-left : (n last : ℕ) (language : List ℕ) (ps : List (List ℕ)) (ds : List RawDesc) → last < 16 → length language ≡ 3 → HasNone 0x4E ds
    → but_pieces language (piece_descs n last language ps ++ ds) ≡ ds
pieces-left n last language [] ds lt three none = others-stay language ds none
pieces-left n last language (p ∷ ps) ds lt three none =
    let d = piece_desc n last language p in
    let more = but_pieces language (piece_descs (suc n) last language ps ++ ds) in
    ap (λ (b : Bool). if not b then d ∷ more else more) (plain n last language p lt three)
    ∙ pieces-left (suc n) last language ps ds lt three none

further-shown : (e : Event) → IsCodable e → IsTyped e → AllByRecursion HasNibbles e.genres → shows.further_of_event (descs_of e) ≡ without_rating e.descriptors
further-shown e p q levels =
    let ps = pieces e.extended in
    let ds = e.descriptors in
    let further = are_further e.rating ds p.limits.descriptors in
    let last : length ps - 1 < 16 = omega (arith, few_pieces e.extended q.extended.utf8 p.limits.extended) in
    ap (λ (s : ShortEvent). shows.without_pieces s.language (shows.joined (shows.pieces_in s.language (descs_of e))) (shows.without_firsts (descs_of e))) (short-shown e q)
    ∙ ap₂ (λ (x : Shown) (xs : List RawDesc). shows.without_pieces e.language x xs) (extended-shown e p q) (firsts-left e q levels further)
    ∙ pieces-left 0 (length ps - 1) e.language ps (without_rating ds) last q.language (all-left (λ (d : RawDesc). (d.tag == 0x4E) ≡ false) 0x55 parental_rating_in is_one_rating ds further.extended)

pub event-shown : (e : Event) → IsCodable e → IsTyped e → AllByRecursion HasNibbles e.genres → shows.event_of e.id e.start.0 e.seconds (descs_of e) ≡ shown_event e
event-shown e p q levels =
    let start = e.start in
    let ds = e.descriptors in
    let rest = genre_descs e.genres ++ (rating_descs e.rating ++ ds) in
    let last = length (pieces e.extended) - 1 in
    let genres : shows.genres_of (descs_of e) ≡ e.genres =
    ap shows.genres_or_none (content-behind 0 last e.language (pieces e.extended) rest)
    ∙ content-first e.genres e.rating ds levels (are_further e.rating ds p.limits.descriptors).content in
    let rating : shows.rating_of (descs_of e) ≡ option_or e.rating (shows.rating_of ds) =
    ap shows.first_rating (rating-behind 0 last e.language (pieces e.extended) rest) ∙ rating-first e.genres e.rating ds q.rating in
    let short = short-shown e q in
    let extended : shows.extended_of (descs_of e) ≡ Text e.extended =
    ap (λ (s : ShortEvent). shows.joined (shows.pieces_in s.language (descs_of e))) short ∙ extended-shown e p q in
    let further = further-shown e p q levels in
    λ i. record {
      id = e.id;
      start = start;
      seconds = e.seconds;
      language = (short i).language;
      name = (short i).name;
      short = (short i).short;
      extended = extended i;
      rating = rating i;
      genres = genres i;
      descriptors = further i;
    }
