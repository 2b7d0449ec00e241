use Rattle.std.proofs.Common.{◌≡◌, ◌++◌, take, string_bytes}
use Rattle.std.specs.List.{flat_map}
use Rattle.ebpf_explain.specs.Lost.{known_there, place_name}
use Rattle.ebpf_explain.proofs.losses.write_known_places.Given as goal

abbrev pub invariant-loop-place : goal.invariant-loop-place
invariant-loop-place l =
    string_bytes l.text ≡ string_bytes l.fn.text ++ flat_map (λ place. place_name place ++ known_there place l.state) (take l.place-index l.places)
