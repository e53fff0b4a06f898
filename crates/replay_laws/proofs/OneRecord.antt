use Rattle.replay_spec.specs.Laws.{ReplayedTextTells}
use Rattle.replay_spec.specs.Replays.{replayed}
use Rattle.text_laws.proofs.Records.{text_tells_record}
use Rattle.plain_laws.proofs.Replays.{replayed_is_plain}

-- scripts with the same labels and tasks whose records have the same text have the same record
pub replayed_text_tells : ReplayedTextTells
replayed_text_tells bytes bytes' lines lines' read read' labels names same =
    text_tells_record (replayed lines) (replayed lines') (replayed_is_plain bytes lines read) (replayed_is_plain bytes' lines' read') labels names same
