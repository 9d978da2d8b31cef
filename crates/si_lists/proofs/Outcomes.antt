-- Options and results.
use Rattle.std.proofs.Common.{◌≡◌, Bool, true, false, refl}
use Rattle.std.specs.Prelude.{Option, Some, None, IfSome, is_some, option_map, option_and_then, if◌then◌else◌, Result, Ok, Err, OnOk, OnErr}
use Prim.{⊥}

-- what a map of an option says of the option
pub none_of : {X Y : Type 0} (f : X → Y) (o : Option X) → option_map f o ≡ None → o ≡ None
none_of f None e = refl
none_of f (Some x) e = cc e

pub mapped : {X Y : Type 0} (f : X → Y) (o : Option X) → is_some o ≡ is_some (option_map f o)
mapped f None = refl
mapped f (Some x) = refl

pub none_some : {X : Type 0} {x : X} → None ≡ Some x → ⊥
none_some h = cc

pub some_same : {X : Type 0} {x y : X} → Some x ≡ Some y → x ≡ y
some_same e = cc

-- what holds anyway holds on one arm
pub on_ok : {T E : Type 0} (r : Result T E) (P : Type 0) → P → OnOk r P
on_ok (Ok x) P p = p
on_ok (Err e) P p = tt

-- what follows from what holds on the arm of success
pub ok_more : {T E : Type 0} (r : Result T E) (P Q : Type 0) → (P → Q) → OnOk r P → OnOk r Q
ok_more (Ok x) P Q f p = f p
ok_more (Err e) P Q f p = tt

pub on_err : {T E : Type 0} (r : Result T E) (P : Type 0) → P → OnErr r P
on_err (Ok x) P p = tt
on_err (Err e) P p = p

-- ---- what holds of what may be made of what may be there

pub then_some : {A B : Type 0} (P : A → Type 0) (Q : B → Type 0) (f : A → Option B) (o : Option A) → IfSome o P → ((x : A) → P x → IfSome (f x) Q) → IfSome (option_and_then f o) Q
then_some P Q f None h g = tt
then_some P Q f (Some x) h g = g x h

pub map_some : {A B : Type 0} (P : A → Type 0) (Q : B → Type 0) (f : A → B) (o : Option A) → IfSome o P → ((x : A) → P x → Q (f x)) → IfSome (option_map f o) Q
map_some P Q f None h g = tt
map_some P Q f (Some x) h g = g x h

pub if_some : {A : Type 0} (P : A → Type 0) (test : Bool) (a b : Option A) → IfSome a P → IfSome b P → IfSome (if test then a else b) P
if_some P true a b h g = h
if_some P false a b h g = g

pub any_some : {A : Type 0} (o : Option A) → IfSome o (λ (x : A). Unit {0})
any_some None = tt
any_some (Some x) = tt
