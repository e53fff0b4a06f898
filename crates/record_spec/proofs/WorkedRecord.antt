use Rattle.std.proofs.Common.{refl}
use Rattle.record_spec.specs.WorkedRecord.{ShowsInOrder}

pub shows_in_order : ShowsInOrder
shows_in_order = record { labels = refl; names = refl }
