-- The parts of a checkpoint read back one behind another.
use Rattle.std.proofs.Common.{◌≡◌, ◌≢◌, ◌==◌, ◌∙◌, ◌<◌, ◌≤◌, ◌+◌, ◌++◌, ◌∷◌, [], ℕ, suc, List, Bool, true, false, Option, Some, None, Ok, refl, sym, ap, subst, arith, map, append-nil, append_assoc}
use Rattle.std.specs.Prelude.{codes, slice_index, flat_map, if◌then◌else◌}
use Rattle.std.specs.List.{AllByRecursion}
use Rattle.std.specs.List.Sorted.{IsStrictlySortedBy, IsStrictlyIncreasing}
use Rattle.std.specs.Map.{keys_of}
use Rattle.std.specs.declared.cmp.Ordering.TheVariants.{Less}
use Rattle.std.proofs.lemmas.Bool.{le-leb}
use Rattle.section_codec.specs.declared.table.Key.{Key}
use Rattle.section_codec.specs.declared.table.NumberedBody.{NumberedBody}
use Rattle.section_codec.specs.Contents.{Ascend}
use Rattle.section_codec.specs.KeyOrder.{key_cmp}
use Rattle.version_book.specs.declared.key_version.KeyVersion.{KeyVersion}
use Rattle.version_book.specs.Book.{GivenVersion, GivenVersions, given_entries}
use Rattle.ts_packets.specs.declared.pid_counter.PidCounter.{PidCounter}
use Rattle.mux_model.specs.declared.mux.Mux.{Mux}
use Rattle.journal_model.specs.declared.step.Step.{Step}
use Rattle.journal_model.specs.declared.step.Entry.{Entry}
use Rattle.journal_model.specs.Steps.{Command}
use Rattle.desk_core.specs.Journal.{outcome_of, entry_after, journal_after, publishes}
use Rattle.desk_core.specs.Desks.{DeskState}
use Rattle.desk_checkpoint.specs.Going.{is_taken}
use Rattle.input_lines.specs.Ahead.{Tail, Came}
use Rattle.journal_text.specs.Lines.{line_text}
use Rattle.journal_text.specs.CommandBack.{IsReadableCommand, ahead_of, command_lines}
use Rattle.desk_checkpoint.specs.declared.part.Part.{Part}
use Rattle.desk_checkpoint.specs.declared.part.Part.TheVariants.{Step as step, Version, Section, Counter, End}
use Rattle.desk_checkpoint.specs.declared.head.Head.{Head}
use Rattle.desk_checkpoint.specs.Fields.{version_fields}
use Rattle.desk_checkpoint.specs.Checkpoints.{Checkpoint, and_current, comes_behind, is_end, is_nil, last_pid, steps_may_come, whole, with_part}
use Rattle.desk_checkpoint.specs.Reads.{first_part, read_on}
use Rattle.desk_checkpoint.specs.Text.{counter_text, key_text, section_text, step_text, steps_text}
use Rattle.desk_checkpoint.specs.Laws.{IsSectionWritten, IsKeyWritten, IsCounterWritten}
use Rattle.desk_checkpoint.proofs.ReadFacts.{read_part, read_end}
use Rattle.desk_checkpoint.proofs.PartBack.{counter_first, end_first, section_first, step_first, version_first}

-- ---- texts behind one another

-- behind this text the checkpoint so far is the next, whatever stands there
abbrev pub Reads : Checkpoint → List ℕ → Checkpoint → Type 0
Reads cp text next = (n : ℕ) (rest : List ℕ) (tail : Tail) → (m : ℕ) × (read_on cp (ahead_of n (text ++ rest) tail) ≡ read_on next (ahead_of m rest tail))

-- with this text it ends
abbrev pub Ends : Checkpoint → List ℕ → Checkpoint → Type 0
Ends cp text next = (n : ℕ) (rest : List ℕ) (tail : Tail) → read_on cp (ahead_of n (text ++ rest) tail) ≡ Ok next

reads_nothing : (cp : Checkpoint) → Reads cp [] cp
reads_nothing cp n rest tail = (n, refl)

reads_both : (a b c : Checkpoint) (s t : List ℕ) → Reads a s b → Reads b t c → Reads a (s ++ t) c
reads_both a b c s t f g n rest tail =
    let one = f n (t ++ rest) tail in
    let two = g one.0 rest tail in
    (two.0, ap (λ (l : List ℕ). read_on a (ahead_of n l tail)) (append_assoc s t rest) ∙ one.1 ∙ two.1)

pub ends_behind : (a b c : Checkpoint) (s t : List ℕ) → Reads a s b → Ends b t c → Ends a (s ++ t) c
ends_behind a b c s t f g n rest tail =
    let one = f n (t ++ rest) tail in
    ap (λ (l : List ℕ). read_on a (ahead_of n l tail)) (append_assoc s t rest) ∙ one.1 ∙ g one.0 rest tail

reads_part : (cp next : Checkpoint) (text : List ℕ) (part : Part)
    → ((n : ℕ) (rest : List ℕ) (tail : Tail) → (m : ℕ) × (first_part (steps_may_come cp) (ahead_of n (text ++ rest) tail) ≡ Came (n, part) (ahead_of m rest tail)))
    → with_part cp part ≡ Some next → is_end part ≡ false → Reads cp text next
reads_part cp next text part first is more n rest tail =
    let one = first n rest tail in
    (one.0, read_part cp next (ahead_of n (text ++ rest) tail) (ahead_of one.0 rest tail) (n, part) one.1 is more)

pub ends_here : (cp next : Checkpoint) → whole cp ≡ Some next → Ends cp (codes "end\n") next
ends_here cp next is n rest tail = read_end cp next (ahead_of n (codes "end\n" ++ rest) tail) (ahead_of (n + 1) rest tail) (n, End) (end_first (steps_may_come cp) n rest tail) is refl

-- ---- a checkpoint so far

abbrev pub so_far : Head → DeskState → List KeyVersion → Option KeyVersion → ℕ → List PidCounter → ℕ → Checkpoint
so_far head desk front current number counters pid = record {
  count = head.count;
  desk = desk;
  keys = front;
  current = current;
  number = number;
  counters = counters;
  pid = pid;
  clock = head.clock;
}

-- after these steps alone
abbrev pub stepped : Mux → Head → List Entry → Checkpoint
stepped mux head entries = so_far head (record { mux = mux; entries = entries }) [] None 0 [] 0

-- ---- steps

-- a command of caller 0 that reads back
abbrev pub IsAsked : Command → Type 0
IsAsked command = (command.0 ≡ 0) × IsReadableCommand 0 command.1

abbrev IsTaken : Entry → Type 0
IsTaken entry = is_taken entry.outcome ≡ true

step_read : (mux : Mux) (head : Head) (entries : List Entry) (s : Step) → IsReadableCommand 0 s → is_taken (outcome_of mux entries s) ≡ true
    → Reads (stepped mux head entries) (step_text (0, s)) (stepped mux head (entries ++ entry_after mux entries (0, s) ∷ []))
step_read mux head entries s h taken =
    let next = stepped mux head (entries ++ entry_after mux entries (0, s) ∷ []) in
    reads_part (stepped mux head entries) next (step_text (0, s)) (step s) (λ n rest tail. (n + command_lines s, step_first n s rest tail h))
    (ap (λ (b : Bool). let o : Option Checkpoint = if b then Some next else None in o) taken) refl

command_read : (mux : Mux) (head : Head) (entries : List Entry) (who : ℕ) (s : Step) → who ≡ 0 → IsReadableCommand 0 s → is_taken (outcome_of mux entries s) ≡ true
    → Reads (stepped mux head entries) (step_text (who, s)) (stepped mux head (entries ++ entry_after mux entries (who, s) ∷ []))
command_read mux head entries who s e h taken =
    subst (λ w. Reads (stepped mux head entries) (step_text (w, s)) (stepped mux head (entries ++ entry_after mux entries (w, s) ∷ []))) (sym e)
    (step_read mux head entries s h taken)

pub steps_read : (mux : Mux) (head : Head) (entries : List Entry) (commands : List Command) → AllByRecursion IsAsked commands
    → AllByRecursion IsTaken (journal_after mux entries commands)
    → Reads (stepped mux head entries) (steps_text commands) (stepped mux head (entries ++ journal_after mux entries commands))
steps_read mux head entries [] asked taken =
    subst (λ (l : List Entry). Reads (stepped mux head entries) [] (stepped mux head l)) (sym (append-nil entries)) (reads_nothing (stepped mux head entries))
steps_read mux head entries (command ∷ commands) asked taken =
    let entry = entry_after mux entries command in
    let first = entries ++ entry ∷ [] in
    let more = journal_after mux first commands in
    subst (λ (l : List Entry). Reads (stepped mux head entries) (steps_text (command ∷ commands)) (stepped mux head l)) (append_assoc entries (entry ∷ []) more)
    (reads_both (stepped mux head entries) (stepped mux head first) (stepped mux head (first ++ more)) (step_text command) (steps_text commands)
    (command_read mux head entries command.0 command.1 asked.0.0 asked.0.1 taken.0) (steps_read mux head first commands asked.1 taken.1))

-- ---- keys

-- a desk that made the publication of a checkpoint, where there is one
abbrev pub HasPublished : ℕ → DeskState → Type 0
HasPublished count desk = (publishes desk.entries == (if count == 0 then 0 else 1)) ≡ true

-- a key as it is handed over
abbrev pub kept_of : Key × GivenVersion → KeyVersion
kept_of entry = record { key = entry.0; version = entry.1.version; sections = entry.1.content }

pub given_back : (keys : GivenVersions) → given_entries (map kept_of keys) ≡ keys
given_back [] = refl
given_back (entry ∷ keys) = ap (λ (l : GivenVersions). entry ∷ l) (given_back keys)

-- the number of the first section is no lower
abbrev IsFrom : ℕ → List NumberedBody → Type 0
IsFrom n [] = Unit {0}
IsFrom n (s ∷ ss) = n ≤ s.number

-- the lowest number behind these sections
abbrev number_behind : ℕ → List NumberedBody → ℕ
number_behind n [] = n
number_behind n (s ∷ ss) = number_behind (s.number + 1) ss

ascend_next : (s : NumberedBody) (ss : List NumberedBody) → Ascend (s ∷ ss) → IsFrom (s.number + 1) ss × Ascend ss
ascend_next s [] h = (tt, tt)
ascend_next s (t ∷ ss) h = (let lt = h.0 in omega arith, h.1)

-- a key of which these sections were read
abbrev begun : Key → ℕ → List NumberedBody → KeyVersion
begun key version sections = record { key = key; version = version; sections = sections }

sections_read : (head : Head) (desk : DeskState) (front : List KeyVersion) (key : Key) (version : ℕ) (before : List NumberedBody) (number : ℕ) (sections : List NumberedBody)
    → IsFrom number sections → Ascend sections → AllByRecursion IsSectionWritten sections
    → Reads (so_far head desk front (Some (begun key version before)) number [] 0) (flat_map section_text sections)
    (so_far head desk front (Some (begun key version (before ++ sections))) (number_behind number sections) [] 0)
sections_read head desk front key version before number [] from ascend written =
    subst (λ (l : List NumberedBody). Reads (so_far head desk front (Some (begun key version before)) number [] 0) [] (so_far head desk front (Some (begun key version l)) number [] 0))
    (sym (append-nil before)) (reads_nothing (so_far head desk front (Some (begun key version before)) number [] 0))
sections_read head desk front key version before number (s ∷ ss) from ascend written =
    let start = so_far head desk front (Some (begun key version before)) number [] 0 in
    let first = before ++ s ∷ [] in
    let middle = so_far head desk front (Some (begun key version first)) (s.number + 1) [] 0 in
    let end = number_behind (s.number + 1) ss in
    let next = ascend_next s ss ascend in
    subst (λ (l : List NumberedBody). Reads start (flat_map section_text (s ∷ ss)) (so_far head desk front (Some (begun key version l)) end [] 0)) (append_assoc before (s ∷ []) ss)
    (reads_both start middle (so_far head desk front (Some (begun key version (first ++ ss))) end [] 0) (section_text s) (flat_map section_text ss)
    (reads_part start middle (section_text s) (Section s) (λ n rest tail. (n + 1, section_first (steps_may_come start) n s rest tail written.0))
    (ap (λ (b : Bool). let o : Option Checkpoint = if b then Some middle else None in o) (le-leb number s.number from)) refl)
    (sections_read head desk front key version first (s.number + 1) ss next.0 next.1 written.1))

version_with : (head : Head) (desk : DeskState) (front all : List KeyVersion) (current : Option KeyVersion) (number : ℕ) (key : Key) (version : ℕ)
    → HasPublished head.count desk → comes_behind key current ≡ true → and_current front current ≡ Some all
    → with_part (so_far head desk front current number [] 0) (Version key version) ≡ Some (so_far head desk all (Some (begun key version [])) 0 [] 0)
version_with head desk front all current number key version has comes is = rw (comes, has, is) refl

key_read : (head : Head) (desk : DeskState) (front all : List KeyVersion) (current : Option KeyVersion) (number : ℕ) (entry : Key × GivenVersion)
    → HasPublished head.count desk → IsKeyWritten entry → comes_behind entry.0 current ≡ true → and_current front current ≡ Some all
    → Reads (so_far head desk front current number [] 0) (key_text entry) (so_far head desk all (Some (kept_of entry)) (number_behind 0 entry.1.content) [] 0)
key_read head desk front all current number entry has written comes is =
    let key = entry.0 in
    let version = entry.1.version in
    let start = so_far head desk front current number [] 0 in
    let middle = so_far head desk all (Some (begun key version [])) 0 [] 0 in
    reads_both start middle (so_far head desk all (Some (kept_of entry)) (number_behind 0 entry.1.content) [] 0) (line_text (version_fields key version)) (flat_map section_text entry.1.content)
    (reads_part start middle (line_text (version_fields key version)) (Version key version)
    (λ n rest tail. (n + 1, version_first (steps_may_come start) n key version rest tail written.listed written.ext written.stream written.network written.version))
    (version_with head desk front all current number key version has comes is) refl)
    (sections_read head desk all key version [] 0 entry.1.content (from_none entry.1.content) written.ascend written.sections)
  where
    from_none : (sections : List NumberedBody) → IsFrom 0 sections
    from_none [] = tt
    from_none (s ∷ ss) = omega arith

-- the first of these keys comes behind
abbrev pub IsBehind : Option KeyVersion → GivenVersions → Type 0
IsBehind current [] = Unit {0}
IsBehind current (entry ∷ keys) = comes_behind entry.0 current ≡ true

-- what is read of keys: all of them, of which the last may still be the current one
pub record ReadKeys (head : Head) (desk : DeskState) (start : Checkpoint) (text : List ℕ) (all : List KeyVersion) : Type 0 where
  pub front : List KeyVersion
  pub current : Option KeyVersion
  pub number : ℕ
  pub is : and_current front current ≡ Some all
  pub reads : Reads start text (so_far head desk front current number [] 0)

some_nil : {A : Type 0} (xs : List A) → xs ≢ [] → is_nil xs ≡ false
some_nil [] h = absurd (h refl)
some_nil (x ∷ xs) h = refl

and_whole : (all : List KeyVersion) (key : KeyVersion) → key.sections ≢ [] → and_current all (Some key) ≡ Some (all ++ key ∷ [])
and_whole all key some =
    ap (λ (b : Bool). let o : Option (List KeyVersion) = if b then None else Some (all ++ key ∷ []) in o) (some_nil key.sections some)

next_behind : (entry : Key × GivenVersion) (keys : GivenVersions) → AllByRecursion (λ (k : Key). key_cmp entry.0 k ≡ Less) (keys_of keys) → IsBehind (Some (kept_of entry)) keys
next_behind entry [] h = tt
next_behind entry (next ∷ keys) h = rw h.0 refl

pub keys_read : (head : Head) (desk : DeskState) (front all : List KeyVersion) (current : Option KeyVersion) (number : ℕ) (keys : GivenVersions)
    → HasPublished head.count desk → AllByRecursion IsKeyWritten keys → IsStrictlySortedBy key_cmp (keys_of keys) → IsBehind current keys → and_current front current ≡ Some all
    → ReadKeys head desk (so_far head desk front current number [] 0) (flat_map key_text keys) (all ++ map kept_of keys)
unfolding IsStrictlySortedBy
keys_read head desk front all current number [] has written sorted behind is = record {
  front = front;
  current = current;
  number = number;
  is = is ∙ ap (λ (l : List KeyVersion). let o : Option (List KeyVersion) = Some l in o) (sym (append-nil all));
  reads = reads_nothing (so_far head desk front current number [] 0);
}
keys_read head desk front all current number (entry ∷ keys) has written sorted behind is =
    let start = so_far head desk front current number [] 0 in
    let last = number_behind 0 entry.1.content in
    let middle = so_far head desk all (Some (kept_of entry)) last [] 0 in
    let more = keys_read head desk all (all ++ kept_of entry ∷ []) (Some (kept_of entry)) last keys has written.1 sorted.1 (next_behind entry keys sorted.0)
    (and_whole all (kept_of entry) written.0.some) in
    record {
      front = more.front;
      current = more.current;
      number = more.number;
      is = more.is ∙ ap (λ (l : List KeyVersion). let o : Option (List KeyVersion) = Some l in o) (append_assoc all (kept_of entry ∷ []) (map kept_of keys));
      reads = reads_both start middle (so_far head desk more.front more.current more.number [] 0) (key_text entry) (flat_map key_text keys)
          (key_read head desk front all current number entry has written.0 behind is) more.reads;
    }

-- ---- counters

-- the first of these PIDs is no lower
abbrev pub IsFromPid : ℕ → List PidCounter → Type 0
IsFromPid n [] = Unit {0}
IsFromPid n (c ∷ cs) = n ≤ c.pid

abbrev pids : List PidCounter → List ℕ
pids counters = map (λ (c : PidCounter). c.pid) counters

pid_next : (c : PidCounter) (cs : List PidCounter) → IsStrictlyIncreasing (pids (c ∷ cs)) → IsFromPid (c.pid + 1) cs × IsStrictlyIncreasing (pids cs)
pid_next c [] h = (tt, λ k lt. absurd (omega arith))
pid_next c (d ∷ cs) h =
    let first : c.pid < d.pid = h 0 (omega arith) in (
      omega (arith, first),
      λ k lt.
          let e : suc k + 1 ≡ suc (k + 1) = omega arith in
          subst (λ j. slice_index (pids (d ∷ cs)) k < slice_index (pids (c ∷ d ∷ cs)) j) e (h (suc k) (omega (arith, lt))),
    )

-- what is read of counters
pub record ReadCounters (head : Head) (desk : DeskState) (start : Checkpoint) (text : List ℕ) (all : List KeyVersion) (counters : List PidCounter) : Type 0 where
  pub front : List KeyVersion
  pub current : Option KeyVersion
  pub number : ℕ
  pub pid : ℕ
  pub is : and_current front current ≡ Some all
  pub reads : Reads start text (so_far head desk front current number counters pid)

counter_with : (head : Head) (desk : DeskState) (front all : List KeyVersion) (current : Option KeyVersion) (number : ℕ) (before : List PidCounter) (pid : ℕ) (counter : PidCounter)
    → HasPublished head.count desk → pid ≤ counter.pid → counter.pid ≤ last_pid desk.mux.rate → and_current front current ≡ Some all
    → with_part (so_far head desk front current number before pid) (Counter counter) ≡ Some (so_far head desk all None number (before ++ counter ∷ []) (counter.pid + 1))
counter_with head desk front all current number before pid counter has low most is =
    rw (le-leb pid counter.pid low, le-leb counter.pid (last_pid desk.mux.rate) most, has, is) refl

pub counters_read : (head : Head) (desk : DeskState) (front all : List KeyVersion) (current : Option KeyVersion) (number : ℕ) (before : List PidCounter) (pid : ℕ) (counters : List PidCounter)
    → HasPublished head.count desk → AllByRecursion (IsCounterWritten desk.mux.rate) counters → IsStrictlyIncreasing (pids counters) → IsFromPid pid counters → and_current front current ≡ Some all
    → ReadCounters head desk (so_far head desk front current number before pid) (flat_map counter_text counters) all (before ++ counters)
counters_read head desk front all current number before pid [] has written ascend from is = record {
  front = front;
  current = current;
  number = number;
  pid = pid;
  is = is;
  reads = subst (λ (l : List PidCounter). Reads (so_far head desk front current number before pid) [] (so_far head desk front current number l pid)) (sym (append-nil before))
      (reads_nothing (so_far head desk front current number before pid));
}
counters_read head desk front all current number before pid (c ∷ cs) has written ascend from is =
    let start = so_far head desk front current number before pid in
    let first = before ++ c ∷ [] in
    let middle = so_far head desk all None number first (c.pid + 1) in
    let next = pid_next c cs ascend in
    let more = counters_read head desk all all None number first (c.pid + 1) cs has written.1 next.1 next.0 refl in
    record {
      front = more.front;
      current = more.current;
      number = more.number;
      pid = more.pid;
      is = more.is;
      reads = subst (λ (l : List PidCounter). Reads start (flat_map counter_text (c ∷ cs)) (so_far head desk more.front more.current more.number l more.pid)) (append_assoc before (c ∷ []) cs)
          (reads_both start middle (so_far head desk more.front more.current more.number (first ++ cs) more.pid) (counter_text c) (flat_map counter_text cs)
          (reads_part start middle (counter_text c) (Counter c) (λ n rest tail. (n + 1, counter_first desk.mux.rate (steps_may_come start) n c rest tail written.0))
          (counter_with head desk front all current number before pid c has from written.0.pid is) refl)
          more.reads);
    }

-- ---- the end

pub end_with : (head : Head) (desk : DeskState) (front all : List KeyVersion) (current : Option KeyVersion) (number : ℕ) (counters : List PidCounter) (pid : ℕ)
    → HasPublished head.count desk → and_current front current ≡ Some all
    → whole (so_far head desk front current number counters pid) ≡ Some (so_far head desk all None number counters pid)
end_with head desk front all current number counters pid has is = rw (has, is) refl
