-- What a list shows with the first descriptor of a kind, and without it.
use Rattle.std.proofs.Common.{◌≡◌, ◌∙◌, ℕ, Bool, true, false, List, [], ◌∷◌, ◌++◌, Option, Some, None, refl, sym, ap, if◌then◌else◌}
use Rattle.std.specs.Prelude.{◌==◌, is_some}
use Rattle.std.specs.Option.{option_or}
use Rattle.std.specs.List.{AllByRecursion}
use Rattle.std.proofs.lemmas.Bool.{eqb-true}
use Rattle.guide_model.specs.declared.descriptor.RawDesc.{RawDesc}
use Rattle.descriptors.specs.ExtendedEvent.{extended_event_in}
use Rattle.descriptors.specs.First.{said_by, first_in, without_first}
use Rattle.table_bodies.specs.ShownEvent.{text_if, pieces_in}

-- ---- a list whose front has the descriptor that is read

-- it is the first one
pub first_front : {A : Type 0} (tag : ℕ) (read : List ℕ → Option A) (d : RawDesc) (ds : List RawDesc) (a : A) → said_by tag read d ≡ Some a
    → first_in tag read (d ∷ ds) ≡ Some a
first_front tag read d ds a says = ap (λ said. option_or said (first_in tag read ds)) says

-- and where its body is shown whole, those after it stay
pub without_front : {A : Type 0} (tag : ℕ) (read : List ℕ → Option A) (whole : List ℕ → Bool) (d : RawDesc) (ds : List RawDesc) (a : A)
    → said_by tag read d ≡ Some a → whole d.body ≡ true → without_first tag read whole (d ∷ ds) ≡ ds
without_front tag read whole d ds a says shown =
    ap (λ said. if is_some said then (if whole d.body then ds else d ∷ ds) else d ∷ without_first tag read whole ds) says
    ∙ ap (λ (b : Bool). if b then ds else d ∷ ds) shown

-- ---- a list with no descriptor of the tag

abbrev pub HasNone : ℕ → List RawDesc → Type 0
HasNone tag ds = AllByRecursion (λ (d : RawDesc). (d.tag == tag) ≡ false) ds

pub none_first : {A : Type 0} (tag : ℕ) (read : List ℕ → Option A) (ds : List RawDesc) → HasNone tag ds → first_in tag read ds ≡ None
none_first tag read [] none = refl
none_first tag read (d ∷ ds) none =
    ap (λ (b : Bool). option_or (if b then read d.body else None) (first_in tag read ds)) none.0 ∙ none_first tag read ds none.1

pub none_without : {A : Type 0} (tag : ℕ) (read : List ℕ → Option A) (whole : List ℕ → Bool) (ds : List RawDesc) → HasNone tag ds
    → without_first tag read whole ds ≡ ds
none_without tag read whole [] none = refl
none_without tag read whole (d ∷ ds) none =
    let more = d ∷ without_first tag read whole ds in
    ap (λ (b : Bool). if is_some (if b then read d.body else None) then (if whole d.body then ds else d ∷ ds) else more) none.0
    ∙ ap (λ more. d ∷ more) (none_without tag read whole ds none.1)

-- ---- a list without a descriptor of another kind

tag_of : {B : Type 0} (t : Bool) (x : Option B) → is_some (if t then x else None) ≡ true → t ≡ true
tag_of true x e = refl
tag_of false x e = cc

-- What is read of a list by steps that pass over descriptors of a tag is the same without the first of that tag.
elsewhere : {X B : Type 0} (f : List RawDesc → X) (step : RawDesc → X → X) → ((d : RawDesc) (ds : List RawDesc) → f (d ∷ ds) ≡ step d (f ds))
    → (other : ℕ) (passed : List ℕ → Option B) (whole : List ℕ → Bool) → ((d : RawDesc) (x : X) → (d.tag == other) ≡ true → step d x ≡ x)
    → (ds : List RawDesc) → f (without_first other passed whole ds) ≡ f ds
elsewhere f step steps other passed whole skips [] = refl
elsewhere {X} f step steps other passed whole skips (d ∷ ds) =
    go (is_some (said_by other passed d)) refl (elsewhere f step steps other passed whole skips ds)
  where
    dropped : (w : Bool) → (d.tag == other) ≡ true → f (if w then ds else d ∷ ds) ≡ f (d ∷ ds)
    dropped true is = sym (steps d ds ∙ skips d (f ds) is)
    dropped false is = refl

    go : (b : Bool) → is_some (said_by other passed d) ≡ b → f (without_first other passed whole ds) ≡ f ds
        → f (if b then (if whole d.body then ds else d ∷ ds) else d ∷ without_first other passed whole ds) ≡ f (d ∷ ds)
    go true some later = dropped (whole d.body) (tag_of (d.tag == other) (passed d.body) some)
    go false none later = steps d (without_first other passed whole ds) ∙ ap (step d) later ∙ sym (steps d ds)

-- another tag
apart : (n other tag : ℕ) → (other == tag) ≡ false → (n == other) ≡ true → (n == tag) ≡ false
apart n other tag differs is = ap (λ (m : ℕ). m == tag) (eqb-true n other is) ∙ differs

pub first_elsewhere : {A B : Type 0} (tag other : ℕ) (read : List ℕ → Option A) (passed : List ℕ → Option B) (whole : List ℕ → Bool)
    → (other == tag) ≡ false → (ds : List RawDesc) → first_in tag read (without_first other passed whole ds) ≡ first_in tag read ds
first_elsewhere tag other read passed whole differs ds =
    elsewhere (first_in tag read) (λ d x. option_or (said_by tag read d) x) (λ d ds. refl) other passed whole
    (λ d x is. ap (λ (t : Bool). option_or (if t then read d.body else None) x) (apart d.tag other tag differs is)) ds

pub pieces_elsewhere : {B : Type 0} (language : List ℕ) (other : ℕ) (passed : List ℕ → Option B) (whole : List ℕ → Bool)
    → (other == 0x4E) ≡ false → (ds : List RawDesc) → pieces_in language (without_first other passed whole ds) ≡ pieces_in language ds
pieces_elsewhere language other passed whole differs ds =
    elsewhere (pieces_in language) (λ d x. text_if language (said_by 0x4E extended_event_in d) ++ x) (λ d ds. refl) other passed whole
    (λ d x is. ap (λ (t : Bool). text_if language (if t then extended_event_in d.body else None) ++ x) (apart d.tag other 0x4E differs is)) ds
