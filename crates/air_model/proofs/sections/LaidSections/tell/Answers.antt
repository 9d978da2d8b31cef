use Rattle.std.proofs.Common.{◌≡◌, ℕ, List, ◌++◌, length, take, drop, ap, ap₂, ◌∙◌, arith, length-append}
use Rattle.std.proofs.lemmas.List.{take_at}
use Rattle.air_model.specs.Telling.{retold}
use Rattle.air_model.proofs.Retelling.{tells, length-retold}
use Rattle.air_model.proofs.sections.LaidSections.tell.Goals as goal

pub returns-clause-told : goal.returns-clause-told
returns-clause-told c =
    let bytes = c.args.self.now.bytes.items in
    let p = c.index-place.result.now in
    let first = c.split_at_mut-from.result.0.now in
    let from = c.split_at_mut-from.result.1.now in
    let section = c.split_at_mut-section.result.0.now in
    let rest = c.split_at_mut-section.result.1.now in
    let new = c.tell_section.new.section in
    let value = c.as_mut_slice.ensures.value in
    let first_is : first ≡ take p.start bytes = c.split_at_mut-from.ensures.front ∙ ap (take p.start) value in
    let from_is : from ≡ drop p.start bytes = c.split_at_mut-from.ensures.back ∙ ap (drop p.start) value in
    let new_is : new ≡ retold c.args.moment.0 (take p.len (drop p.start bytes)) =
    c.tell_section.ensures ∙ ap (retold c.args.moment.0) (c.split_at_mut-section.ensures.front ∙ ap (take p.len) from_is) in
    let rest_is : rest ≡ drop p.len (drop p.start bytes) = c.split_at_mut-section.ensures.back ∙ ap (drop p.len) from_is in
    let size : length (first ++ (new ++ rest)) ≡ c.args.self.now.bytes.len =
    omega (
      arith,
      length-append first (new ++ rest),
      length-append new rest,
      ap length c.tell_section.ensures,
      length-retold c.args.moment.0 section,
      c.split_at_mut-from.ensures.front_len,
      c.split_at_mut-from.ensures.back_len,
      c.split_at_mut-section.ensures.front_len,
      c.split_at_mut-section.ensures.back_len,
      c.as_mut_slice.ensures.len,
    ) in
    let all : take c.args.self.now.bytes.len ((first ++ (new ++ rest)) ++ drop (length (first ++ (new ++ rest))) bytes)
    ≡ take p.start bytes ++ (retold c.args.moment.0 (take p.len (drop p.start bytes)) ++ drop p.len (drop p.start bytes)) =
    take_at (first ++ (new ++ rest)) (drop (length (first ++ (new ++ rest))) bytes) c.args.self.now.bytes.len size
    ∙ ap₂ (λ (x y : List ℕ). x ++ y) first_is (ap₂ (λ (x y : List ℕ). x ++ y) new_is rest_is) in
    let t = tells c.args.moment.0 c.args.at bytes _ c.args.self.now.placed.items p c.requires.line c.requires.at c.index-place.ensures all in
    t.told

pub returns-clause-line : goal.returns-clause-line
returns-clause-line c =
    let bytes = c.args.self.now.bytes.items in
    let p = c.index-place.result.now in
    let first = c.split_at_mut-from.result.0.now in
    let from = c.split_at_mut-from.result.1.now in
    let section = c.split_at_mut-section.result.0.now in
    let rest = c.split_at_mut-section.result.1.now in
    let new = c.tell_section.new.section in
    let value = c.as_mut_slice.ensures.value in
    let first_is : first ≡ take p.start bytes = c.split_at_mut-from.ensures.front ∙ ap (take p.start) value in
    let from_is : from ≡ drop p.start bytes = c.split_at_mut-from.ensures.back ∙ ap (drop p.start) value in
    let new_is : new ≡ retold c.args.moment.0 (take p.len (drop p.start bytes)) =
    c.tell_section.ensures ∙ ap (retold c.args.moment.0) (c.split_at_mut-section.ensures.front ∙ ap (take p.len) from_is) in
    let rest_is : rest ≡ drop p.len (drop p.start bytes) = c.split_at_mut-section.ensures.back ∙ ap (drop p.len) from_is in
    let size : length (first ++ (new ++ rest)) ≡ c.args.self.now.bytes.len =
    omega (
      arith,
      length-append first (new ++ rest),
      length-append new rest,
      ap length c.tell_section.ensures,
      length-retold c.args.moment.0 section,
      c.split_at_mut-from.ensures.front_len,
      c.split_at_mut-from.ensures.back_len,
      c.split_at_mut-section.ensures.front_len,
      c.split_at_mut-section.ensures.back_len,
      c.as_mut_slice.ensures.len,
    ) in
    let all : take c.args.self.now.bytes.len ((first ++ (new ++ rest)) ++ drop (length (first ++ (new ++ rest))) bytes)
    ≡ take p.start bytes ++ (retold c.args.moment.0 (take p.len (drop p.start bytes)) ++ drop p.len (drop p.start bytes)) =
    take_at (first ++ (new ++ rest)) (drop (length (first ++ (new ++ rest))) bytes) c.args.self.now.bytes.len size
    ∙ ap₂ (λ (x y : List ℕ). x ++ y) first_is (ap₂ (λ (x y : List ℕ). x ++ y) new_is rest_is) in
    let t = tells c.args.moment.0 c.args.at bytes _ c.args.self.now.placed.items p c.requires.line c.requires.at c.index-place.ensures all in
    t.line
