-- Entries of languages and of services, written and read one after the other.
use Rattle.std.proofs.Common.{◌≡◌, ◌∙◌, ℕ, ◌+◌, ◌*◌, ◌/◌, ◌%◌, List, [], ◌∷◌, ◌++◌, length, Some, refl, sym, ap, subst, arith, length-append}
use Rattle.std.specs.Option.{option_map}
use Rattle.std.specs.List.{AllByRecursion}
use Rattle.si_lists.proofs.Lists.{three_of}
use Rattle.descriptors.specs.declared.service_list.ServiceKind.{ServiceKind}
use Rattle.descriptors.specs.Languages.{languages_body, languages_in, LanguagesReadBack}
use Rattle.descriptors.specs.ServiceList.{service_list_body, kind_of, ServiceListReadsBack}

pub length-languages_body : (languages : List (List ℕ)) → AllByRecursion (λ language. length language ≡ 3) languages → length (languages_body languages) ≡ 4 * length languages
length-languages_body [] three = refl
length-languages_body (l ∷ languages) three =
    omega (arith, length-append (l ++ 0 ∷ []) (languages_body languages), length-append l (0 ∷ []), three.0, length-languages_body languages three.1)

pub languages-read_back : LanguagesReadBack
languages-read_back [] three = refl
languages-read_back (l ∷ languages) three =
    let t = three_of l three.0 in
    subst (λ (xs : List ℕ). languages_in ((xs ++ 0 ∷ []) ++ languages_body languages) ≡ Some (xs ∷ languages)) (sym t.3)
    (ap (λ read. option_map (λ more. (t.0 ∷ t.1 ∷ t.2 ∷ []) ∷ more) read) (languages-read_back languages three.1))

pub length-service_list_body : (services : List ServiceKind) → length (service_list_body services) ≡ 3 * length services
length-service_list_body [] = refl
length-service_list_body (s ∷ services) = omega (arith, length-service_list_body services)

pub service_list-reads_back : ServiceListReadsBack
service_list-reads_back [] fit = refl
service_list-reads_back (s ∷ services) fit =
    let whole : 256 * (s.service / 256 % 256) + s.service % 256 ≡ s.service = omega (arith, fit.0) in
    ap (λ read. option_map (λ more. kind_of (s.service / 256 % 256) (s.service % 256) s.kind ∷ more) read) (service_list-reads_back services fit.1)
    ∙ ap (λ (n : ℕ). Some (record { service = n; kind = s.kind } ∷ services)) whole
