-- Why no program is made of a function, by what came of its linked slots.
use Rattle.std.proofs.Common.{ℕ, List, inr}
use Rattle.ebpf_object_file.specs.declared.data_function.DataFunction.{DataFunction}
use Rattle.ebpf_loader.specs.declared.load.Loaded.{Loaded}
use Rattle.ebpf_host_c.specs.declared.loading.Loops.{Loops}
use Rattle.ebpf_host_c.specs.declared.with_data.Unloaded.{Unloaded}
use Rattle.ebpf_host_c.specs.declared.with_data.Unloaded.TheVariants as unloaded
use Rattle.ebpf_host_c.specs.WithData.{IsLinkedFor, IsUnloaded, IsUnmade}

pub unloaded_of : (loops : Loops) (context held : ℕ) (file : List ℕ) (f : DataFunction) (l : Loaded) → IsLinkedFor context held file f l
    → (e : Unloaded) → IsUnmade loops l e → IsUnloaded loops context held file f e
unloaded_of loops context held file f l is unloaded.Declaration h = absurd h
unloaded_of loops context held file f l is (unloaded.Told s) h = inr (l, is, h)
unloaded_of loops context held file f l is (unloaded.Rejected r) h = (l, is, h)
unloaded_of loops context held file f l is unloaded.NoMemory h = tt
