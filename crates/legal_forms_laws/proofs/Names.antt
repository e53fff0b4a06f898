use Rattle.std.proofs.Common.{◌≡◌, ℕ, true, ◌==◌, List, [], length, subst}
use Rattle.std.specs.Prelude.{nat_lt, slice_index_or}
use Rattle.std.specs.Bool.{Decides}
use Rattle.std.specs.List.{list_all}
use Rattle.std.proofs.lemmas.Bool.Decides.{Decides-and, Decides-like, Decides-eqb, Decides-ltb}
use Rattle.std.proofs.lemmas.Option.{slice_get_within, slice_get-get_or, get_or_from_slice_get}
use Rattle.text_spec.specs.Names.{place_of}
use Rattle.verb_spec.specs.Words.{is_task_name}
use Rattle.replay_spec.specs.Plain.{IsNameTable}
use Rattle.legal_forms.specs.Forms.{all_from, are_names}
use Rattle.legal_forms.specs.Laws.{NamesAreDecided}
use Rattle.legal_forms_laws.proofs.Quantified.{list_all_decides, all_at_decides}
use Rattle.legal_forms_laws.proofs.Members.{stands_in, all_stand}

pub names_decide : (names : List (List ℕ)) → Decides (are_names names) (IsNameTable names)
names_decide names =
    Decides-like (are_names names)
    (λ all. record {
      are = all_stand (λ name. is_task_name name ≡ true) names all.0;
      once = λ pid within. all.1.0 pid (slice_index_or names pid []) (slice_get-get_or names pid [] within);
      some = all.1.1;
    })
    (λ table. (
      (λ i name at. stands_in (λ n. is_task_name n ≡ true) names i name table.are at),
      (
        (λ pid name at. subst (λ (n : List ℕ). place_of names n ≡ pid) (get_or_from_slice_get names pid name [] at)
            (table.once pid (slice_get_within names pid name at))),
        table.some,
      ),
    ))
    (Decides-and (list_all is_task_name names) _
    (list_all_decides is_task_name (λ name. is_task_name name ≡ true) (λ name. ((λ e. e), (λ e. e))) names)
    (Decides-and (all_from (λ pid name. place_of names name == pid) 0 names) (nat_lt 0 (length names))
    (all_at_decides (λ pid name. place_of names name == pid) (λ pid name. place_of names name ≡ pid)
    (λ pid name. Decides-eqb (place_of names name) pid) names) (Decides-ltb 0 (length names))))

pub names_are_decided : NamesAreDecided
names_are_decided r = names_decide r.names
