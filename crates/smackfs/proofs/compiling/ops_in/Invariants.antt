use Rattle.std.proofs.Common.{◌≡◌, drop, map}
use Rattle.file_spec.specs.Files.{ops_of}
use Rattle.smackfs.specs.Named.{named_write}
use Rattle.smackfs.proofs.Ops.{put_ops}
use Rattle.smackfs.proofs.compiling.ops_in.Given as goal

abbrev pub invariant-loop-write : goal.invariant-loop-write
invariant-loop-write l =
    put_ops l.ops (ops_of l.fn.labels l.text (map named_write (drop l.write-index l.writes))) ≡ ops_of l.fn.labels l.text (map named_write l.writes)
