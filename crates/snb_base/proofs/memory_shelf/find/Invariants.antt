-- The name is not among the files so far.
use Rattle.std.proofs.Common.{◌≡◌, drop, map}
use Rattle.snb_base.specs.MemoryShelf.{file_of}
use Rattle.snb_base.proofs.memory_shelf.find.Given as goal

abbrev pub invariant-loop-file : goal.invariant-loop-file
invariant-loop-file l =
    file_of (map (λ f. (f.name.items, f.bytes.items)) (drop l.file-index l.files)) l.name
    ≡ file_of (map (λ f. (f.name.items, f.bytes.items)) l.files) l.name
