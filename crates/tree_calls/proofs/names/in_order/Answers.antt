use Rattle.std.proofs.Common.{◌∙◌, get_or, ap, arith}
use Rattle.std.specs.Ordering.{nat_cmp}
use Rattle.std.specs.Cmp.Lexicographic.{slice_cmp}
use Rattle.std.specs.BTreeSet.{insert_key}
use Rattle.world_spec.specs.declared.FileRow.{FileRow}
use Rattle.tree_calls.specs.Shown.{lists_of}
use Rattle.tree_calls.proofs.Orders.{shown_in_order, one_more_name}
use Rattle.tree_calls.proofs.names.in_order.Goals as goal

pub loop-file-preserved : goal.loop-file-preserved
loop-file-preserved c =
    let files = c.args.files.now in
    let i = c.loop-file.file-index in
    let file = c.file-item.result in
    ap lists_of c.in-Ok.ensures.keys
    ∙ shown_in_order c.loop-file.names.keys c.items.result
    ∙ ap (λ n. insert_key (slice_cmp nat_cmp) (lists_of c.loop-file.names.keys) n) (c.items.ensures ∙ ap (λ (f : FileRow). f.name) c.file-item.is)
    ∙ ap (λ ns. insert_key (slice_cmp nat_cmp) ns (get_or files i file).name) c.loop-file.invariant
    ∙ one_more_name files i file (omega arith)
