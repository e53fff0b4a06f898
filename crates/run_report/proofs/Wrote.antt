use Rattle.std.proofs.Common.{◌≡◌, ℕ, List, [], ◌++◌, sym, ap, ◌∙◌, refl, append_assoc, arith, subst}
use Rattle.std.specs.Prelude.{Result, Ok, Err}
use Rattle.std.specs.Result.{IsErrAnd}
use Rattle.std.proofs.lemmas.Result.{err_from_is_err_and}
use Rattle.std.proofs.lemmas.List.{append-nil}
use Rattle.outside.specs.Seen.{Seen}
use Rattle.outside.specs.Sink.{Appends}
use Rattle.outside.proofs.Appending.{appends_nothing, appends_more, appends_front_more, appends_front_of_more}
use Rattle.run_report.specs.Put.{IsPut}
use Rattle.run_report.specs.declared.fault.ReportFault.{ReportFault}

-- of a whole text the rest is still to be written, all before it was taken, and no fault came
pub record Wrote (before now : Seen) (whole rest : List ℕ) : Type 0 where
  pub front : List ℕ
  pub is : whole ≡ front ++ rest
  pub taken : Appends before.bytes now.bytes front
  pub same : now.faults ≡ before.faults

pub wrote_nothing : (a : Seen) (whole : List ℕ) → Wrote a a whole whole
wrote_nothing a whole = record { front = []; is = refl; taken = appends_nothing a.bytes a.bytes refl; same = refl }

-- a piece is put
pub wrote_more : (a b c : Seen) (whole rest piece rest' : List ℕ) → Wrote a b whole rest → rest ≡ piece ++ rest'
    → IsPut piece b c (Ok tt) → Wrote a c whole rest'
wrote_more a b c whole rest piece rest' w cut put = record {
  front = w.front ++ piece;
  is = w.is ∙ ap (λ (t : List ℕ). w.front ++ t) cut ∙ sym (append_assoc w.front piece rest');
  taken = appends_more a.bytes b.bytes c.bytes w.front piece w.taken put.ok;
  same = put.told (λ e. cc) ∙ w.same;
}

-- the writing ended within a piece
stops : (a b c : Seen) (whole rest piece rest' : List ℕ) (fault : ReportFault) → Wrote a b whole rest
    → rest ≡ piece ++ rest' → IsPut piece b c (Err fault) → IsPut whole a c (Err fault)
stops a b c whole rest piece rest' fault w cut put = record {
  ok = tt;
  err = rw (w.is, cut) (appends_front_more a.bytes b.bytes c.bytes w.front (piece ++ rest') w.taken (appends_front_of_more b.bytes c.bytes piece rest' put.err));
  later = rw (sym w.same) put.later;
  failed = rw (sym w.same) put.failed;
  told = λ other. put.told other ∙ w.same;
}

pub wrote_stops : (a b c : Seen) (whole rest piece rest' : List ℕ) (fault : ReportFault) (r : Result (Unit {0}) ReportFault)
    → IsErrAnd r (λ x. x ≡ fault) → Wrote a b whole rest → rest ≡ piece ++ rest' → IsPut piece b c (Err fault) → IsPut whole a c r
wrote_stops a b c whole rest piece rest' fault r exit w cut put =
    let (x, is, same) = err_from_is_err_and r exit in
    subst (λ (r : Result (Unit {0}) ReportFault). IsPut whole a c r) (sym (is ∙ ap (λ x. Err x) same)) (stops a b c whole rest piece rest' fault w cut put)

-- the writing ended for want of memory between two pieces
pub wrote_stop : (a b : Seen) (whole rest : List ℕ) → Wrote a b whole rest → IsPut whole a b (Err ReportFault.Memory)
wrote_stop a b whole rest w = record {
  ok = tt;
  err = (w.front, rest, w.is, w.taken);
  later = rw w.same (omega arith);
  failed = λ is. cc;
  told = λ other. w.same;
}

-- nothing is left
pub wrote_all : (a b : Seen) (whole : List ℕ) → Wrote a b whole [] → IsPut whole a b (Ok tt)
wrote_all a b whole w = record {
  ok = rw (w.is, append-nil w.front) w.taken;
  err = tt;
  later = rw w.same (omega arith);
  failed = λ is. cc;
  told = λ other. w.same;
}

-- the last piece is put, or the writing ended within it
pub wrote_last : (a b c : Seen) (whole rest piece : List ℕ) (r : Result (Unit {0}) ReportFault) → Wrote a b whole rest
    → rest ≡ piece ++ [] → IsPut piece b c r → IsPut whole a c r
wrote_last a b c whole rest piece (Ok tt) w cut put = wrote_all a c whole (wrote_more a b c whole rest piece [] w cut put)
wrote_last a b c whole rest piece (Err fault) w cut put = stops a b c whole rest piece [] fault w cut put
