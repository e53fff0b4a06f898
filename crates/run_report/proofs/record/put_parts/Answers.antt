use Rattle.std.proofs.Common.{refl}
use Rattle.run_report.proofs.Wrote.{wrote_nothing, wrote_stops, wrote_last}
use Rattle.run_report.proofs.Whole.{text_in, journal_text, history_text, asked_text, after_head, after_journal, after_history, after_asked, head_text, show_parts, head_put, wrote_head, wrote_journal, wrote_history, wrote_asked}
use Rattle.run_report.proofs.LoggingModes.{history_by_modes}
use Rattle.record_spec.specs.Show.{show, end_line}
use Rattle.std.proofs.Common.{[], ◌∷◌}
use Rattle.run_report.proofs.record.put_parts.Goals as goal

pub returns-in_err-put_head : goal.returns-in_err-put_head
returns-in_err-put_head g c =
    wrote_stops _ _ _ (show c.args.r.now) (show c.args.r.now) (head_text c.args.r.now) (after_head c.args.r.now) _ _ c.from_residual.ensures.1
    (wrote_nothing _ (show c.args.r.now)) (show_parts c.args.r.now) (head_put c.args.r.now _ c.items.ensures _ _ _ c.in_err-put_head.ensures)

pub returns-in_err-put_items : goal.returns-in_err-put_items
returns-in_err-put_items g c =
    wrote_stops _ _ _ (show c.args.r.now) (after_head c.args.r.now) (journal_text c.args.r.now) (after_journal c.args.r.now) _ _ c.from_residual-in_err-put_items.ensures.1
    (wrote_head c.args.r.now _ _ (head_put c.args.r.now _ c.items.ensures _ _ _ c.in_ok-put_head.ensures)) refl (rw (c.items.ensures, c.items-2.ensures) at c.in_err-put_items.ensures)

pub returns-in_err-put_items-2 : goal.returns-in_err-put_items-2
returns-in_err-put_items-2 g c =
    let journal = wrote_journal c.args.r.now _ _ _ (wrote_head c.args.r.now _ _ (head_put c.args.r.now _ c.items.ensures _ _ _ c.in_ok-put_head.ensures)) (rw (c.items.ensures, c.items-2.ensures) at c.in_ok-put_items.ensures) in
    wrote_stops _ _ _ (show c.args.r.now) (after_journal c.args.r.now) (history_text c.args.r.now) (after_history c.args.r.now) _ _ c.from_residual-in_err-put_items-2.ensures.1
    journal refl (rw (c.items.ensures, c.items-3.ensures, c.requires.modes, history_by_modes c.args.r.now) at c.in_err-put_items-2.ensures)

pub returns-in_err-put_items-3 : goal.returns-in_err-put_items-3
returns-in_err-put_items-3 g c =
    let journal = wrote_journal c.args.r.now _ _ _ (wrote_head c.args.r.now _ _ (head_put c.args.r.now _ c.items.ensures _ _ _ c.in_ok-put_head.ensures)) (rw (c.items.ensures, c.items-2.ensures) at c.in_ok-put_items.ensures) in
    let history = wrote_history c.args.r.now _ _ _ journal (rw (c.items.ensures, c.items-3.ensures, c.requires.modes, history_by_modes c.args.r.now) at c.in_ok-put_items-2.ensures) in
    wrote_stops _ _ _ (show c.args.r.now) (after_history c.args.r.now) (asked_text c.args.r.now) (after_asked c.args.r.now) _ _ c.from_residual-in_err-put_items-3.ensures.1
    history refl (rw (c.items.ensures, c.items-4.ensures) at c.in_err-put_items-3.ensures)

pub returns : goal.returns
returns g c =
    let journal = wrote_journal c.args.r.now _ _ _ (wrote_head c.args.r.now _ _ (head_put c.args.r.now _ c.items.ensures _ _ _ c.in_ok-put_head.ensures)) (rw (c.items.ensures, c.items-2.ensures) at c.in_ok-put_items.ensures) in
    let history = wrote_history c.args.r.now _ _ _ journal (rw (c.items.ensures, c.items-3.ensures, c.requires.modes, history_by_modes c.args.r.now) at c.in_ok-put_items-2.ensures) in
    let asked = wrote_asked c.args.r.now _ _ _ history (rw (c.items.ensures, c.items-4.ensures) at c.in_ok-put_items-3.ensures) in
    wrote_last _ _ _ (show c.args.r.now) (after_asked c.args.r.now) (text_in c.args.r.now (end_line c.args.r.now ∷ [])) _ asked refl c.put_end.ensures
