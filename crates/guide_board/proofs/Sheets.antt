-- Sheets of the posts of one history.
use Rattle.std.proofs.Common.{◌≡◌, ℕ, suc, List, [], ◌∷◌, length, map, refl, ap, sym, ◌∙◌, inl, inr, ◌==◌, Option, Some, None, option_map, Ok, Err}
use Rattle.std.specs.List.{find}
use Rattle.std.specs.Prelude.{is_some}
use Rattle.std.proofs.lemmas.Bool.{cases_Bool}
use Rattle.std.proofs.lemmas.List.{length-map}
use mathlib.Core.List.{IsPrefix}
use Rattle.si_lists.proofs.Outcomes.{none_of, mapped}
use Rattle.guide_model.specs.declared.guide.Guide.{Guide}
use Rattle.guide_model.specs.declared.guide.ServiceGuide.{ServiceGuide}
use Rattle.guide_board.specs.declared.lines.Line.{Line}
use Rattle.guide_board.specs.declared.post.Post.{Post}
use Rattle.guide_board.specs.Lines.{line_of, lines_of, is_line}
use Rattle.guide_board.specs.Posts.{post, services_of, services_in, serves, is_service, now_next, AnswersNewest}
use Rattle.guide_board.specs.History.{IsSheet}
use Rattle.guide_board.proofs.Posts.{services_prefix}

-- a line of the guide's lines is that of the service
find_lines : (at number : ℕ) (services : List ServiceGuide) → find (is_line number) (map (line_of at) services) ≡ option_map (line_of at) (find (is_service number) services)
find_lines at number [] = refl
find_lines at number (s ∷ services) = elim (cases_Bool (s.service == number)) [
  | inl e ↦ rw e refl
  | inr n ↦ rw n (find_lines at number services)
]

-- a service is found just where it is one of the guide's
find_serves : (number : ℕ) (services : List ServiceGuide) → serves (map (λ s. s.service) services) number ≡ is_some (find (is_service number) services)
find_serves number [] = refl
find_serves number (s ∷ services) = elim (cases_Bool (s.service == number)) [
  | inl e ↦ rw e refl
  | inr n ↦ rw n (find_serves number services)
]

says_line : (p : Post) (number : ℕ) (line : Line) (found : Option ServiceGuide) → number ≡ p.number → option_map (line_of p.guide.moment.0) found ≡ Some line
    → option_map (now_next p) found ≡ Some (record { number = number; now = line.present; next = line.following })
says_line p number line None e h = absurd (cc h)
says_line p number line (Some s) e h =
    let l : line_of p.guide.moment.0 s ≡ line = cc h in cc (e, ap (λ (x : Line). x.present) l, ap (λ (x : Line). x.following) l)

says_none : (p : Post) (found : Option ServiceGuide) → option_map (line_of p.guide.moment.0) found ≡ None → option_map (now_next p) found ≡ None
says_none p found h = ap (option_map (now_next p)) (none_of (line_of p.guide.moment.0) found h)

pub opening_sheet : (later number number' : ℕ) (lines : List Line) (guide : Guide) (posts : List Post) → later ≡ 0 → number ≡ number' → lines ≡ lines_of guide → posts ≡ post number' guide ∷ [] → IsSheet later number lines posts
opening_sheet later number number' lines guide posts z n l e = record { size = ap length e ∙ sym (ap suc z); last = post number' guide; ends = ([], e); numbered = n; lined = l; served = sym (ap services_in e) }

module _ (later number : ℕ) (lines : List Line) (posts : List Post) (sheet : IsSheet later number lines posts) where
  abbrev guide : Guide
  guide = sheet.last.guide

  -- as many lines as the opening post has services
  pub sheet_room : (all : List Post) → IsPrefix posts all → length lines ≡ length (services_in all)
  sheet_room all begins =
      let own : length lines ≡ length (services_of guide) = ap length sheet.lined ∙ (length-map guide.services (line_of guide.moment.0) ∙ sym (length-map guide.services (λ s. s.service))) in
      own ∙ (ap length sheet.served ∙ sym (ap length (services_prefix posts all later sheet.size begins)))

  looked_up : (service : ℕ) → find (is_line service) lines ≡ option_map (line_of guide.moment.0) (find (is_service service) guide.services)
  looked_up service = ap (λ (ls : List Line). find (is_line service) ls) sheet.lined ∙ find_lines guide.moment.0 service guide.services

  pub answered : (service : ℕ) (line : Line) → find (is_line service) lines ≡ Some line → AnswersNewest posts service (Ok (record { number = number; now = line.present; next = line.following }))
  answered service line found = (sheet.last, sheet.ends, says_line sheet.last number line (find (is_service service) guide.services) sheet.numbered (sym (looked_up service) ∙ found))

  pub not_served : (service : ℕ) → find (is_line service) lines ≡ None → AnswersNewest posts service (Err (record { 0 = service }))
  not_served service none = (sheet.last, sheet.ends, (refl, says_none sheet.last (find (is_service service) guide.services) (sym (looked_up service) ∙ none)))

  pub serves_found : (service : ℕ) → serves (services_in posts) service ≡ is_some (find (is_line service) lines)
  serves_found service =
      sym (ap (λ (l : List ℕ). serves l service) sheet.served)
      ∙ (find_serves service guide.services ∙ (mapped (line_of guide.moment.0) (find (is_service service) guide.services) ∙ sym (ap is_some (looked_up service))))
