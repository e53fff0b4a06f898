-- What is known of a journal and a history stays so in longer ones.
use Rattle.std.proofs.Common.{◌≡◌, ℕ, zero, suc, ◌<◌, ◌≤◌, List, [], ◌∷◌, ◌++◌, length, take, fold, Bool, true, false, sym, refl, ap, ◌∙◌, subst, arith}
use Rattle.std.specs.List.{AllByRecursion}
use Rattle.std.proofs.lemmas.List.{take-append-le}
use Rattle.smack_base.specs.declared.cap.Cap.TheVariants as Cap
use Rattle.rules_spec.specs.declared.Batch.{Batch}
use Rattle.rules_spec.specs.Rulings.{Ruling, ruling}
use Rattle.rules_spec.specs.Cases.{verdict_of_cases}
use Rattle.rules_spec.specs.Creds.{is_effective}
use Rattle.file_spec.specs.declared.Refusal.{Refusal}
use Rattle.file_spec.specs.declared.Refusal.TheVariants as Refusal
use Rattle.world_spec.specs.declared.Entry.{Entry}
use Rattle.world_spec.specs.Worlds.{World, world_first, creds_of}
use Rattle.world_spec.specs.Steps.{step}
use Rattle.world_spec.specs.Replays.{after_entry, replay_of, version_of}
use Rattle.record_spec.specs.declared.AskedWhat.{AskedWhat}
use Rattle.record_spec.specs.declared.AskedWhat.TheVariants as AskedWhat
use Rattle.live_table.specs.Lists.{Begins, Has, here, there}
use Rattle.live_table.specs.Batches.{batches_by}
use Rattle.live_table.proofs.Lists.{has_left, has_right, begins_length}
use Rattle.legal_spec.specs.Calls.{Stands}
use Rattle.legal_spec.specs.Legal.{rows_taken}
use Rattle.std.proofs.lemmas.Option.{slice_get_within}
use Rattle.runs_spec.specs.Deeds.{entries_of, Deed, entered, batched, answered, creds_after, SeesTask, IsTrueRefusal, IsTrueAnswer, IsAt, AllAt, Made}
use Rattle.runs_spec.specs.Runs.{TaskRun, ends, does, forks, own, numbers, AllMade}

module _ {A : Type 0} where
  stands_more : (xs more : List A) (n : ℕ) (x : A) → Stands xs n x → Stands (xs ++ more) n x
  stands_more [] more n x s = absurd (cc)
  stands_more (y ∷ xs) more zero x s = s
  stands_more (y ∷ xs) more (suc n) x s = stands_more xs more n x s

  pub stands_grow : (xs xs' : List A) (n : ℕ) (x : A) → Begins xs' xs → Stands xs n x → Stands xs' n x
  stands_grow xs xs' n x b s = subst (λ (l : List A). Stands l n x) (sym b.is) (stands_more xs b.rest n x s)

  stands_end : (front : List A) (x : A) → Stands (front ++ x ∷ []) (length front) x
  stands_end [] x = refl
  stands_end (y ∷ front) x = stands_end front x

  pub stands_last : (xs front : List A) (x : A) → xs ≡ front ++ x ∷ [] → Stands xs (length front) x
  stands_last xs front x e = subst (λ (l : List A). Stands l (length front) x) (sym e) (stands_end front x)

pub take_grow : {A : Type 0} (xs xs' : List A) (m : ℕ) → Begins xs' xs → m ≤ length xs → take m xs' ≡ take m xs
take_grow xs xs' m b l = ap (take m) b.is ∙ take-append-le m xs b.rest l

le_of : {a b : ℕ} → a < b → a ≤ b
le_of l = omega arith

pub version_grow : (j j' : List Batch) (n : ℕ) → Begins j' j → n ≤ length j → version_of j' n ≡ version_of j n
version_grow j j' n b l = ap ruling (take_grow j j' n b l)

module _ (j j' : List Batch) (b : Begins j' j) where
  versions_grow : (h : List Entry) → AllByRecursion (λ e. e.version ≤ length j) h → AllByRecursion (λ e. e.version ≤ length j') h
  versions_grow [] all = tt
  versions_grow (e ∷ es) all = (let a = all.0 in let c = begins_length b in omega arith, versions_grow es all.1)

  replay_grow : (w : World) (h : List Entry) → AllByRecursion (λ e. e.version ≤ length j) h
      → fold (after_entry j') w h ≡ fold (after_entry j) w h
  replay_grow w [] all = refl
  replay_grow w (e ∷ es) all =
      ap (λ (v : Ruling). fold (after_entry j') (step w v e.task e.call).world es) (version_grow j j' e.version b all.0)
      ∙ replay_grow (after_entry j w e) es all.1

  module _ (h h' : List Entry) (g : Begins h' h) where
    sees_world : (k m : ℕ) → SeesTask j h k m → replay_of j' (take m h') ≡ replay_of j (take m h)
    sees_world k m s = ap (replay_of j') (take_grow h h' m g s.long) ∙ replay_grow world_first (take m h) s.versions

    pub sees_grow : (k m : ℕ) → SeesTask j h k m → SeesTask j' h' k m
    sees_grow k m s = record {
      long = let a = s.long in let c = begins_length g in omega arith;
      versions = subst (AllByRecursion (λ e. e.version ≤ length j')) (sym (take_grow h h' m g s.long)) (versions_grow (take m h) s.versions);
      there = subst (λ (w : World). k < length w.tasks) (sym (sees_world k m s)) s.there;
    }

    pub creds_grow : (k m : ℕ) → SeesTask j h k m → creds_after j' h' k m ≡ creds_after j h k m
    creds_grow k m s = ap (λ (w : World). creds_of w k) (sees_world k m s)

    effective_grow : (k m n : ℕ) (x : Bool) → n ≤ length j → SeesTask j h k m
        → is_effective (creds_after j h k m) Cap.MacAdmin (version_of j n) ≡ x
        → is_effective (creds_after j' h' k m) Cap.MacAdmin (version_of j' n) ≡ x
    effective_grow k m n x l s e = (λ i. is_effective (creds_grow k m s i) Cap.MacAdmin (version_grow j j' n b l i)) ∙ e

    refusal_grow : (k m v : ℕ) (f : Refusal) → v ≤ length j → IsTrueRefusal j h k m v f → IsTrueRefusal j' h' k m v f
    refusal_grow k m v Refusal.NoSuchFile l a = tt
    refusal_grow k m v Refusal.TooLong l a = tt
    refusal_grow k m v (Refusal.BadLine bad) l a = tt
    refusal_grow k m v (Refusal.UnknownLabel line) l a = tt
    refusal_grow k m v Refusal.NotPrivileged l a = (sees_grow k m a.0, effective_grow k m v false l a.0 a.1)
    refusal_grow k m v (Refusal.JournalFull rows) l a = a ∙ ap rows_taken (sym (take_grow j j' v b l))

    answer_grow : (k m v : ℕ) (what : AskedWhat) → v ≤ length j → IsTrueAnswer j h k m v what → IsTrueAnswer j' h' k m v what
    answer_grow k m v (AskedWhat.Ask x) l a = a ∙ ap (λ (r : Ruling). verdict_of_cases r x.subject x.object x.modes) (sym (version_grow j j' v b l))
    answer_grow k m v (AskedWhat.Refused file fault) l a = refusal_grow k m v fault l a
    answer_grow k m v (AskedWhat.Wait pid) l a = tt

    at_grow : (k : ℕ) (d : Deed) → IsAt j h k d → IsAt j' h' k d
    at_grow k (entered e n) i = stands_grow h h' n e g i
    at_grow k (batched n x m) i = (stands_grow j j' n x b i.0, sees_grow k m i.1, effective_grow k m n true (le_of (slice_get_within j n x i.0)) i.1 i.2)
    at_grow k (answered l m) i = (let y = i.0 in let z = begins_length b in omega arith, answer_grow k m l.version l.what i.0 i.1)

    pub all_at-grow : (k : ℕ) (ds : List Deed) → AllAt j h k ds → AllAt j' h' k ds
    all_at-grow k [] a = tt
    all_at-grow k (d ∷ ds) a = (at_grow k d a.0, all_at-grow k ds a.1)

    pub made_grow : (k : ℕ) (ds : List Deed) → batches_by k j' ≡ batches_by k j → entries_of k h' ≡ entries_of k h → Made j h k ds → Made j' h' k ds
    made_grow k ds bs es q = record { batches = bs ∙ q.batches; entries = es ∙ q.entries; at = all_at-grow k ds q.at }

    -- the numbers have no more calls in the longer lists
    pub all_made-grow : (r : TaskRun) → ((k : ℕ) → Has k (numbers r) → batches_by k j' ≡ batches_by k j)
        → ((k : ℕ) → Has k (numbers r) → entries_of k h' ≡ entries_of k h) → AllMade j h r → AllMade j' h' r
    all_made-grow ends bs es m = tt
    all_made-grow (does d r) bs es m = all_made-grow r bs es m
    all_made-grow (forks e n pid k mine theirs wait after) bs es m =
        let mid : (x : ℕ) → Has x (k ∷ numbers theirs) → Has x (numbers mine ++ ((k ∷ numbers theirs) ++ numbers after)) =
        λ x y. has_right (numbers mine) (has_left (numbers after) y) in (
          made_grow k (own theirs) (bs k (mid k here)) (es k (mid k here)) m.0,
          all_made-grow mine (λ x y. bs x (has_left ((k ∷ numbers theirs) ++ numbers after) y))
              (λ x y. es x (has_left ((k ∷ numbers theirs) ++ numbers after) y)) m.1,
          all_made-grow theirs (λ x y. bs x (mid x (there y))) (λ x y. es x (mid x (there y))) m.2,
          all_made-grow after (λ x y. bs x (has_right (numbers mine) (has_right (k ∷ numbers theirs) y)))
              (λ x y. es x (has_right (numbers mine) (has_right (k ∷ numbers theirs) y))) m.3,
        )
