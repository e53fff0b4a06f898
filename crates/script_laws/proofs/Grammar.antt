use Rattle.std.proofs.Common.{◌≡◌, ◌≤◌, ◌+◌, ℕ, Bool, true, false, zero, suc, List, [], ◌∷◌, ◌++◌, append_assoc, length, take, drop, refl, sym, ap, ◌∙◌, subst, arith, add-zero, Option, Some, None, Ok, Err, inl, inr}
use Rattle.std.specs.Prelude.{Result, nat_lt}
use Rattle.std.proofs.lemmas.Bool.{le-ltb, leb-true, lt-ltb, ltb-true, ltb-false}
use Rattle.std.proofs.lemmas.List.{append-nil, length-take-le, length-drop, take-append-drop}
use Rattle.text_spec.specs.Texts.{TextLine, lines_from}
use Rattle.script_spec.specs.declared.ScriptFault.{ScriptFault}
use Rattle.script_spec.specs.Lines.{ScriptLine}
use Rattle.script_spec.specs.Tasks.{tasks_of}
use Rattle.script_spec.specs.Causes.{line_cause}
use Rattle.script_spec.specs.Grammar.{items, item_of, is_skipped, spaced_words, text_count, has_text, call_of, calls_of, unless_script_fault, limit_faults, item_fault, lines_fault, parse, most_lines, most_bytes}
use Rattle.script_laws.specs.Parses.{AreSkipped, Spells, LineCut, BeginsWith, EndsAs, ReadsAs, Parses}
use Rattle.script_laws.proofs.Items.{items_pass, items_skipped, items_called, call_is, text_is_there, text_is_missing, breaks, breaks_nothing}

-- a line that spells a call breaks nothing
spelled_good : (above : List ScriptLine) (number : ℕ) (line : TextLine) (text after : List TextLine) (c : ScriptLine) → Spells above number line text c
    → (item_fault above (item_of number line (text ++ after)) ≡ None) × (call_of above (item_of number line (text ++ after)) ≡ c)
spelled_good above number line text after c spells =
    let item = item_of number line (text ++ after) in
    let is : call_of above item ≡ c = call_is above number line text after spells.followed ∙ sym spells.is in
    let few : nat_lt most_lines number ≡ false = le-ltb most_lines number spells.within in
    let there : has_text item ≡ true = text_is_there number line text after spells.followed in
    let fault : item_fault above item ≡ breaks false number (line_cause (tasks_of above) (spaced_words line) true) (limit_faults (above ++ c ∷ []) c) =
    λ i. breaks (few i) number (line_cause (tasks_of above) (spaced_words line) (there i)) (limit_faults (above ++ is i ∷ []) (is i)) in
    (fault ∙ rw (spells.allowed, spells.limits) refl, is)

no_items : (number : ℕ) (rest : List TextLine) → AreSkipped rest → items number 0 rest ≡ []
no_items number rest are = ap (items number 0) (sym (append-nil rest)) ∙ items_skipped number rest [] are

-- what the lines left behind some calls give
ends_complete : (whole : Option ScriptFault) (above : List ScriptLine) (number : ℕ) (rest : List TextLine) (read : Result (List ScriptLine) ScriptFault)
    → EndsAs whole above number rest read → calls_of whole above (items number 0 rest) ≡ read
ends_complete whole above number rest (Ok read) ends =
    let none : items number 0 rest ≡ [] = no_items number rest (ends.1) in
    rw (none, ends.2) (ap (λ (cs : List ScriptLine). Ok cs) (sym (ends.0)))
ends_complete whole above number rest (Err e) (inr ends) =
    let none : items number 0 rest ≡ [] = no_items number rest (ends.0) in
    rw (none, ends.1) refl
ends_complete whole above number rest (Err e) (inl next) = broken next.0 next.1 next.2 next.3 next.4 next.5 next.6
  where
    broken : (skipped : List TextLine) (line : TextLine) (after : List TextLine) → rest ≡ skipped ++ line ∷ after → AreSkipped skipped
        → is_skipped line ≡ false → item_fault above (item_of (number + length skipped) line after) ≡ Some e
        → calls_of whole above (items number 0 rest) ≡ Err e
    broken skipped line after is are called bad =
        rw (is, items_skipped number skipped (line ∷ after) are, called, bad) refl

-- lines that begin with those of some calls, and end so
complete_from : (calls : List ScriptLine) (whole : Option ScriptFault) (above : List ScriptLine) (number : ℕ) (lines : List TextLine) (number' : ℕ)
    (rest : List TextLine) (read : Result (List ScriptLine) ScriptFault) → BeginsWith above number lines calls number' rest
    → EndsAs whole (above ++ calls) number' rest read → calls_of whole above (items number 0 lines) ≡ read
complete_from [] whole above number lines number' rest read begins ends =
    let here : EndsAs whole above number lines read =
    subst (λ (ls : List TextLine). EndsAs whole above number ls read) (sym (begins.1))
    (subst (λ (n : ℕ). EndsAs whole above n rest read) (sym (begins.0))
    (subst (λ (cs : List ScriptLine). EndsAs whole cs number' rest read) (append-nil above) ends)) in
    ends_complete whole above number lines read here
complete_from (c ∷ cs) whole above number lines number' rest read begins ends =
    let cut = begins.0 in
    let n = number + length cut.skipped in
    let good = spelled_good above n cut.line cut.text cut.after c (begins.3) in
    let behind = complete_from cs whole (above ++ c ∷ []) (n + 1 + length cut.text) cut.after number' rest read (begins.4)
    (subst (λ (all : List ScriptLine). EndsAs whole all number' rest read) (sym (append_assoc above (c ∷ []) cs)) ends) in
    let first : items number 0 lines ≡ item_of n cut.line (cut.text ++ cut.after) ∷ items (n + 1 + length cut.text) 0 cut.after =
    ap (items number 0) (begins.1) ∙ items_skipped number cut.skipped (cut.line ∷ cut.text ++ cut.after) (begins.2)
    ∙ items_called n cut.line cut.text cut.after (begins.3).called (begins.3).followed in
    rw (first, good.0, good.1) behind

-- what stands behind lines that all are read
end_here : (whole : Option ScriptFault) (above : List ScriptLine) (number : ℕ) → EndsAs whole (above ++ []) number [] (unless_script_fault whole (Ok above))
end_here None above number = (sym (append-nil above), refl, refl)
end_here (Some e) above number = inr (refl, refl)

-- one more line that is skipped, before the end
skip_end : (read : Result (List ScriptLine) ScriptFault) (whole : Option ScriptFault) (calls : List ScriptLine) (number : ℕ) (l : TextLine) (ls : List TextLine)
    → is_skipped l ≡ true → EndsAs whole calls (number + 1) ls read → EndsAs whole calls number (l ∷ ls) read
skip_end (Ok read) whole calls number l ls skip ends = (ends.0, rw skip (ends.1), ends.2)
skip_end (Err e) whole calls number l ls skip (inr ends) = inr (rw skip (ends.0), ends.1)
skip_end (Err e) whole calls number l ls skip (inl next) =
    let skipped = next.0 in
    let line = next.1 in
    let after = next.2 in
    let more : number + 1 + length skipped ≡ number + length (l ∷ skipped) = omega arith in
    inl (
      l ∷ skipped,
      line,
      after,
      ap (λ (t : List TextLine). l ∷ t) (next.3),
      rw skip (next.4),
      next.5,
      subst (λ (n : ℕ). item_fault calls (item_of n line after) ≡ Some e) more (next.6),
    )

-- one more line that is skipped, before all
skip_one : (whole : Option ScriptFault) (above : List ScriptLine) (number : ℕ) (l : TextLine) (ls : List TextLine) (read : Result (List ScriptLine) ScriptFault)
    → is_skipped l ≡ true → ReadsAs whole above (number + 1) ls read → ReadsAs whole above number (l ∷ ls) read
skip_one whole above number l ls read skip reads = by reads.0 reads.1 reads.2 reads.3 reads.4
  where
    by : (calls : List ScriptLine) (number' : ℕ) (rest : List TextLine) → BeginsWith above (number + 1) ls calls number' rest
        → EndsAs whole (above ++ calls) number' rest read → ReadsAs whole above number (l ∷ ls) read
    by [] number' rest begins ends =
        let here : EndsAs whole (above ++ []) (number + 1) ls read =
        subst (λ (t : List TextLine). EndsAs whole (above ++ []) (number + 1) t read) (sym (begins.1))
        (subst (λ (n : ℕ). EndsAs whole (above ++ []) n rest read) (sym (begins.0)) ends) in
        ([], number, l ∷ ls, (refl, refl), skip_end read whole (above ++ []) number l ls skip here)
    by (c ∷ cs) number' rest begins ends =
        let cut = begins.0 in
        let cut' : LineCut = record { skipped = l ∷ cut.skipped; line = cut.line; text = cut.text; after = cut.after } in
        let more : number + 1 + length cut.skipped ≡ number + length (l ∷ cut.skipped) = omega arith in (
          c ∷ cs,
          number',
          rest,
          (
            cut',
            ap (λ (t : List TextLine). l ∷ t) (begins.1),
            rw skip (begins.2),
            subst (λ (n : ℕ). Spells above n cut.line cut.text c) more (begins.3),
            subst (λ (n : ℕ). BeginsWith (above ++ c ∷ []) (n + 1 + length cut.text) cut.after cs number' rest) more (begins.4),
          ),
          ends,
        )

-- a line that spells a call, before what is read behind it
call_one : (whole : Option ScriptFault) (above : List ScriptLine) (number : ℕ) (l : TextLine) (text after : List TextLine) (c : ScriptLine)
    (read : Result (List ScriptLine) ScriptFault) → Spells above number l text c → ReadsAs whole (above ++ c ∷ []) (number + 1 + length text) after read
    → ReadsAs whole above number (l ∷ text ++ after) read
call_one whole above number l text after c read spells reads =
    let none : number ≡ number + 0 = sym (add-zero number) in (
      c ∷ reads.0,
      reads.1,
      reads.2,
      (
        record { skipped = []; line = l; text = text; after = after },
        refl,
        refl,
        subst (λ (n : ℕ). Spells above n l text c) none spells,
        subst (λ (n : ℕ). BeginsWith (above ++ c ∷ []) (n + 1 + length text) after reads.0 reads.1 reads.2) none reads.3,
      ),
      subst (λ (all : List ScriptLine). EndsAs whole all reads.1 reads.2 read) (append_assoc above (c ∷ []) reads.0) reads.4,
    )

-- a line that breaks something
line_bad : (whole : Option ScriptFault) (above : List ScriptLine) (number : ℕ) (l : TextLine) (ls : List TextLine) (e : ScriptFault) → is_skipped l ≡ false
    → item_fault above (item_of number l ls) ≡ Some e → ReadsAs whole above number (l ∷ ls) (Err e)
line_bad whole above number l ls e called bad =
    let here : item_fault (above ++ []) (item_of (number + 0) l ls) ≡ Some e =
    subst (λ (n : ℕ). item_fault (above ++ []) (item_of n l ls) ≡ Some e) (sym (add-zero number))
    (subst (λ (all : List ScriptLine). item_fault all (item_of number l ls) ≡ Some e) (sym (append-nil above)) bad) in
    ([], number, l ∷ ls, (refl, refl), inl ([], l, ls, refl, refl, called, here))

there_is_text : (b : Bool) (above : List ScriptLine) (l : TextLine) → line_cause (tasks_of above) (spaced_words l) b ≡ None → b ≡ true
there_is_text true above l good = refl
there_is_text false above l good = absurd (text_is_missing (tasks_of above) (spaced_words l) good)

-- a line that breaks nothing, before what is read behind its text
line_good : (whole : Option ScriptFault) (above : List ScriptLine) (number : ℕ) (l : TextLine) (ls : List TextLine) (read : Result (List ScriptLine) ScriptFault)
    → is_skipped l ≡ false → item_fault above (item_of number l ls) ≡ None
    → ReadsAs whole (above ++ call_of above (item_of number l ls) ∷ []) (number + 1 + text_count (spaced_words l)) (drop (text_count (spaced_words l)) ls) read
    → ReadsAs whole above number (l ∷ ls) read
line_good whole above number l ls read called good behind =
    let item = item_of number l ls in
    let count = text_count (spaced_words l) in
    let call = call_of above item in
    let facts = breaks_nothing (nat_lt most_lines number) number (line_cause (tasks_of above) (spaced_words l) (has_text item))
    (limit_faults (above ++ call ∷ []) call) good in
    let there : has_text item ≡ true = there_is_text (has_text item) above l facts.1 in
    let many : count ≤ length ls = leb-true count (length ls) there in
    let long : length (take count ls) ≡ count = length-take-le count ls many in
    let spells : Spells above number l (take count ls) call = record {
      called = called;
      followed = long;
      is = refl;
      allowed = subst (λ (b : Bool). line_cause (tasks_of above) (spaced_words l) b ≡ None) there facts.1;
      within = ltb-false most_lines number facts.0;
      limits = facts.2;
    } in
    subst (λ (t : List TextLine). ReadsAs whole above number (l ∷ t) read) (take-append-drop count ls)
    (call_one whole above number l (take count ls) (drop count ls) call read spells
    (subst (λ (n : ℕ). ReadsAs whole (above ++ call ∷ []) (number + 1 + n) (drop count ls) read) (sym long) behind))

-- one line, before what is read behind it
sound_step : (whole : Option ScriptFault) (above : List ScriptLine) (number : ℕ) (l : TextLine) (ls : List TextLine) (b : Bool) (fault : Option ScriptFault)
    → is_skipped l ≡ b → item_fault above (item_of number l ls) ≡ fault
    → ReadsAs whole above (number + 1) ls (calls_of whole above (items (number + 1) 0 ls))
    → ReadsAs whole (above ++ call_of above (item_of number l ls) ∷ []) (number + 1 + text_count (spaced_words l)) (drop (text_count (spaced_words l)) ls)
    (calls_of whole (above ++ call_of above (item_of number l ls) ∷ [])
    (items (number + 1 + text_count (spaced_words l)) 0 (drop (text_count (spaced_words l)) ls)))
    → ReadsAs whole above number (l ∷ ls) (calls_of whole above (items number 0 (l ∷ ls)))
sound_step whole above number l ls true fault skip is behind_skipped behind_call =
    let same : calls_of whole above (items number 0 (l ∷ ls)) ≡ calls_of whole above (items (number + 1) 0 ls) = rw skip refl in
    subst (λ (r : Result (List ScriptLine) ScriptFault). ReadsAs whole above number (l ∷ ls) r) (sym same)
    (skip_one whole above number l ls (calls_of whole above (items (number + 1) 0 ls)) skip behind_skipped)
sound_step whole above number l ls false (Some e) called is behind_skipped behind_call =
    let same : calls_of whole above (items number 0 (l ∷ ls)) ≡ Err e = rw (called, is) refl in
    subst (λ (r : Result (List ScriptLine) ScriptFault). ReadsAs whole above number (l ∷ ls) r) (sym same) (line_bad whole above number l ls e called is)
sound_step whole above number l ls false None called is behind_skipped behind_call =
    let count = text_count (spaced_words l) in
    let call = call_of above (item_of number l ls) in
    let read = calls_of whole (above ++ call ∷ []) (items (number + 1 + count) 0 (drop count ls)) in
    let same : calls_of whole above (items number 0 (l ∷ ls)) ≡ read =
    rw (called, is) (ap (calls_of whole (above ++ call ∷ [])) (items_pass (number + 1) count ls)) in
    subst (λ (r : Result (List ScriptLine) ScriptFault). ReadsAs whole above number (l ∷ ls) r) (sym same)
    (line_good whole above number l ls read called is behind_call)

-- what lines give, with a bound on their number
sound_from : (fuel : ℕ) (whole : Option ScriptFault) (above : List ScriptLine) (number : ℕ) (lines : List TextLine) → length lines ≤ fuel
    → ReadsAs whole above number lines (calls_of whole above (items number 0 lines))
sound_from fuel whole above number [] short = ([], number, [], (refl, refl), end_here whole above number)
sound_from zero whole above number (l ∷ ls) short = absurd (omega (arith, short))
sound_from (suc fuel) whole above number (l ∷ ls) short =
    let count = text_count (spaced_words l) in
    sound_step whole above number l ls (is_skipped l) (item_fault above (item_of number l ls)) refl refl
    (sound_from fuel whole above (number + 1) ls (omega (arith, short)))
    (sound_from fuel whole (above ++ call_of above (item_of number l ls) ∷ []) (number + 1 + count) (drop count ls)
    (omega (arith, short, length-drop count ls)))

parse_by : (b : Bool) (bytes : List ℕ) → nat_lt most_bytes (length bytes) ≡ b → Parses bytes (parse bytes)
parse_by true bytes many = inl (ltb-true most_bytes (length bytes) many, rw many refl)
parse_by false bytes few =
    let lines = lines_from 0 bytes in
    let same : parse bytes ≡ calls_of (lines_fault lines) [] (items 1 0 lines) = rw few refl in
    inr (
      ltb-false most_bytes (length bytes) few,
      subst (λ (r : Result (List ScriptLine) ScriptFault). ReadsAs (lines_fault lines) [] 1 lines r) (sym same)
          (sound_from (length lines) (lines_fault lines) [] 1 lines (omega arith)),
    )

-- bytes parse as what the grammar relates them to
pub sound : (bytes : List ℕ) → Parses bytes (parse bytes)
sound bytes = parse_by (nat_lt most_bytes (length bytes)) bytes refl

-- and as nothing else
pub complete : (bytes : List ℕ) (read : Result (List ScriptLine) ScriptFault) → Parses bytes read → parse bytes ≡ read
complete bytes read (inl many) =
    let is : nat_lt most_bytes (length bytes) ≡ true = lt-ltb most_bytes (length bytes) many.0 in
    rw is (sym many.1)
complete bytes read (inr few) =
    let lines = lines_from 0 bytes in
    let reads = few.1 in
    let is : nat_lt most_bytes (length bytes) ≡ false = le-ltb most_bytes (length bytes) few.0 in
    rw is (complete_from reads.0 (lines_fault lines) [] 1 lines reads.1 reads.2 read reads.3 reads.4)
