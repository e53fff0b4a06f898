use Rattle.std.proofs.Common.{◌≡◌, ◌≤◌, ◌<◌, ◌+◌, ◌-◌, ℕ, Bool, true, false, not, ◌&&◌, cond, nat_eq, List, [], ◌∷◌, length, take, drop, refl, sym, ap, ◌∙◌, subst, arith, Some, None}
use Rattle.std.specs.Prelude.{Option, map, nat_le, ◌||◌}
use Rattle.std.proofs.lemmas.Bool.{eqb-true, ltb-true}
use Rattle.std.proofs.lemmas.List.{drop-map, length-drop, length-map}
use Rattle.text_spec.specs.Texts.{Placed, is_space, whole_lines}
use Rattle.text_spec.specs.Names.{place_of}
use Rattle.rule_text.specs.declared.part.Part.{Part}
use Rattle.rule_text.specs.Parts.{placed, lines_of, part_words}
use Rattle.verb_spec.specs.declared.Verb.{Verb}
use Rattle.verb_spec.specs.Verbs.{verb_of, kinds_of, kinds_by}
use Rattle.verb_spec.specs.Kinds.{has_word}
use Rattle.verb_spec.specs.Words.{word_at}
use Rattle.script_spec.specs.Lines.{ScriptLine, verb_in, kinds_in, words_behind}
use Rattle.script_spec.specs.Tasks.{Tasks, pid_of, is_live_name, is_gone, is_there, is_pid, is_latest_child, latest_child, change_of, change_by}
use Rattle.script_spec.specs.Causes.{is_wait_bad}
use Rattle.script_spec.specs.Grammar.{text_count}
use Rattle.script_text.specs.Spelled.{spelled_seen, HasVerb, IsSpelledCall}
use Rattle.script_text.specs.TaskTables.{IsWaitThere}
use Rattle.script_text.specs.Scripts.{IsTextOf, IsSpelled}
use Rattle.script_text.proofs.LineCauses.{line_good}
use Rattle.script_text.proofs.LabelWords.{and_left, label_words_good}
use Rattle.script_text.specs.declared.spelled.Spelled.{Spelled}
use Rattle.script_text.specs.declared.reading.Found.{Found}
use Rattle.script_text.specs.declared.reading.Place.{Place}

where_latest : (b : Bool) (n : ℕ) (more : Option ℕ) (most k : ℕ) → n ≤ most → (more ≡ Some k → k ≤ most) → cond b (Some n) more ≡ Some k → k ≤ most
where_latest true n more most k within behind is = let same : n ≡ k = cc in omega (arith, same, within)
where_latest false n more most k within behind is = behind is

-- a latest child is a task that is there
latest_there : (awaited : ℕ → Bool) (ps : List ℕ) (task k : ℕ) → latest_child awaited ps task ≡ Some k → k ≤ length ps
latest_there awaited [] task k is = cc
latest_there awaited (p ∷ older) task k is =
    where_latest (nat_eq p task && not (awaited (length (p ∷ older)))) (length (p ∷ older)) (latest_child awaited older task) (length (p ∷ older)) k
    (omega arith) (λ behind. omega (arith, latest_there awaited older task k behind)) is

child_there : (child : Option ℕ) (pid most : ℕ) → ((k : ℕ) → child ≡ Some k → k ≤ most) → is_pid child pid ≡ true → pid ≤ most
child_there None pid most within is = cc
child_there (Some k) pid most within is = omega (arith, eqb-true k pid is, within k refl)

latest_good : (b : Bool) → (not b || false) ≡ false → b ≡ true
latest_good true e = refl
latest_good false e = cc

-- a task that a good line waits for is there
wait_there : (tasks : Tasks) (verb : Verb) (l : ScriptLine) (task : ℕ) → verb_in l ≡ Some verb
    → length (words_behind l) ≡ length (kinds_of verb (words_behind l))
    → has_word (is_wait_bad tasks task) (kinds_of verb (words_behind l)) (words_behind l) ≡ false → length tasks.parents + 1 ≡ length tasks.names
    → IsWaitThere tasks (change_of l)
wait_there tasks verb l task is many good shape =
    subst (λ (o : Option Verb). IsWaitThere tasks (change_by o l)) (sym is) (by verb l.words many good)
  where
    by : (verb : Verb) (ws : List Placed) → length (drop 1 ws) ≡ length (kinds_of verb (drop 1 ws))
        → has_word (is_wait_bad tasks task) (kinds_of verb (drop 1 ws)) (drop 1 ws) ≡ false
        → IsWaitThere tasks (change_by (Some verb) (record { task = l.task; seq = l.seq; line = l.line; words = ws; text = l.text }))
    by Verb.Write ws many good = tt
    by Verb.Ask ws many good = tt
    by Verb.Wait [] many good = cc
    by Verb.Wait (v ∷ []) many good = cc
    by Verb.Wait (v ∷ w ∷ x ∷ ws) many good = cc
    by Verb.Wait (v ∷ w ∷ []) many good =
        let within = child_there (latest_child tasks.awaited tasks.parents task) (place_of tasks.names w.bytes) (length tasks.parents)
        (latest_there tasks.awaited tasks.parents task) (latest_good (is_latest_child tasks task w.bytes) good) in
        omega (arith, within, shape)
    by Verb.Fork ws many good = tt
    by Verb.Exit ws many good = tt
    by (Verb.Call verb) ws many good = tt

-- a live task is there
pub live_there : (tasks : Tasks) (name : List ℕ) → is_live_name tasks name ≡ true → pid_of tasks name < length tasks.names
live_there tasks name live = ltb-true _ _ (and_left (is_there tasks name) _ (and_left _ (not (is_gone tasks (pid_of tasks name))) live))

verb_behind : (ws : List Part) → word_at 0 (map placed (drop 1 ws)) ≡ word_at 1 (map placed ws)
verb_behind [] = refl
verb_behind (w ∷ ws) = refl

drop_two : (ws : List Part) → drop 1 (map placed (drop 1 ws)) ≡ drop 2 (map placed ws)
drop_two [] = refl
drop_two (w ∷ ws) = refl

-- the words of a call whose line has this verb
call_is : (tasks : Tasks) (c : Spelled) (ws : List Part) → HasVerb tasks (map placed ws) true c.verb → c.words.now ≡ drop 1 ws → IsSpelledCall c
call_is tasks c ws has cut =
    let good = line_good tasks (map placed ws) true c.verb has in
    let names : map placed c.words.now ≡ map placed (drop 1 ws) = ap (map placed) cut in
    let two : words_behind (spelled_seen c) ≡ drop 2 (map placed ws) = ap (drop 1) names ∙ drop_two ws in
    let long : length c.words.now ≡ length ws - 1 = ap length cut ∙ length-drop 1 ws in
    let verb : verb_in (spelled_seen c) ≡ Some c.verb =
    ap (λ (w : List Placed). verb_of (word_at 0 w).bytes) names ∙ ap (λ (p : Placed). verb_of p.bytes) (verb_behind ws) ∙ has.is in
    let kinds : kinds_in (spelled_seen c) ≡ kinds_of c.verb (drop 2 (map placed ws)) =
    ap (λ (o : Option Verb). kinds_by o (words_behind (spelled_seen c))) verb ∙ ap (kinds_of c.verb) two in
    record {
      verb = verb;
      many = rw kinds (omega (arith, long, length-map ws placed, good.0, good.1.many, length-drop 2 (map placed ws)));
      few = omega (arith, long, length-map ws placed, has.few);
      labels = rw (kinds, two) (label_words_good 3 (kinds_of c.verb (drop 2 (map placed ws))) (drop 2 (map placed ws)) good.1.are);
    }

-- a line whose words and text are those of a call
pub spelled : (tasks : Tasks) (f : Found) (c : Spelled) (place : Place) (ws : List Part) (first : Part) (count : ℕ)
    → map placed ws ≡ part_words is_space f.line → HasVerb tasks (map placed ws) true c.verb → length tasks.parents + 1 ≡ length tasks.names
    → c.words.now ≡ drop 1 ws → c.line ≡ f.number → placed first ≡ word_at 0 (map placed ws) → c.task ≡ pid_of tasks first.bytes.now
    → c.seq ≡ tasks.calls c.task + 1 → count ≡ text_count (map placed ws) → nat_le count (length (lines_of f.after)) ≡ true
    → IsTextOf count f.after c.text place.rest → place.line ≡ f.number + 1 + count → IsSpelled tasks f c place
spelled tasks f c place ws first count words has shape cut line name task seq counted text_good is_text next =
    let good = line_good tasks (map placed ws) true c.verb has in
    let W = part_words is_space f.line in
    let counted_here : count ≡ text_count W = counted ∙ ap text_count words in
    let e_task : c.task ≡ pid_of tasks (word_at 0 W).bytes =
    task ∙ ap (λ (p : Placed). pid_of tasks p.bytes) (name ∙ ap (word_at 0) words) in
    let e_words : map placed c.words.now ≡ drop 1 W = ap (map placed) cut ∙ sym (drop-map placed 1 ws) ∙ ap (drop 1) words in
    let call = call_is tasks c ws has cut in
    let two : words_behind (spelled_seen c) ≡ drop 2 (map placed ws) = ap (λ (w : List Part). drop 1 (map placed w)) cut ∙ drop_two ws in
    let task_named : c.task ≡ pid_of tasks (word_at 0 (map placed ws)).bytes = task ∙ ap (λ (p : Placed). pid_of tasks p.bytes) name in
    record {
      good = rw (← words, ← counted, text_good, has.good) refl;
      is =
          λ i. record {
            task = e_task i;
            seq = (seq ∙ ap (λ (t : ℕ). tasks.calls t + 1) e_task) i;
            line = line i;
            words = e_words i;
            text = record { at = is_text.at i; bytes = (is_text.bytes ∙ ap (λ (n : ℕ). whole_lines (take n (lines_of f.after))) counted_here) i };
          };
      call = call;
      task = rw task_named (live_there tasks (word_at 0 (map placed ws)).bytes good.1.live);
      wait =
          wait_there tasks c.verb (spelled_seen c) (pid_of tasks (word_at 0 (map placed ws)).bytes) call.verb (rw two good.1.many) (rw two good.1.wait)
          shape;
      behind = record {
        rest = rw (← words, ← counted) is_text.behind;
        line = rw (← words, ← counted) next;
        there = rw (← words, ← counted) is_text.there;
        ends = is_text.ends;
        fewer = omega (arith, is_text.fewer, next);
      };
    }

-- the pid of a task that is there is a number of 16 bits
pub pid_fits : (tasks : Tasks) (ws : List Part) (text : Bool) (verb : Verb) (first : Part) (pid : ℕ) → HasVerb tasks (map placed ws) text verb
    → placed first ≡ word_at 0 (map placed ws) → pid ≡ pid_of tasks first.bytes.now → length tasks.names ≤ 64 → pid < 65536
pid_fits tasks ws text verb first pid has name is few =
    let good = line_good tasks (map placed ws) text verb has in
    let same : pid ≡ pid_of tasks (word_at 0 (map placed ws)).bytes = is ∙ ap (λ (p : Placed). pid_of tasks p.bytes) name in
    omega (arith, same, live_there tasks (word_at 0 (map placed ws)).bytes good.1.live, few)
