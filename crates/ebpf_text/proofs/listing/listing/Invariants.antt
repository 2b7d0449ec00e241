use Rattle.std.proofs.Common.{◌≡◌, ◌++◌, drop, string_bytes}
use Rattle.ebpf_text.specs.Listing.{lines_from, listing_of}
use Rattle.ebpf_text.proofs.listing.listing.Given as goal

abbrev pub invariant-loop-slot : goal.invariant-loop-slot
invariant-loop-slot l = string_bytes l.text ++ lines_from l.slot (drop l.slot l.program) ≡ listing_of l.program
