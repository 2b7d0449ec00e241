-- How an access that may be outside of what its base points into is mended, as text.
use Rattle.std.specs.Prelude.{ℕ, ℤ, pos, negsuc, ◌+ℤ◌, ◌-ℤ◌, nat_abs, int_le, int_lt, Bool, true, false, ◌&&◌, if◌then◌else◌, List, [], ◌++◌}
use Rattle.std.specs.Prelude.{codes, Option, Some, None}
use Rattle.std.specs.Fmt.{signed_decimal}
use Rattle.std.specs.Int.{int_min, int_max}
use Rattle.std.specs.Ordering.{int_eq}
use Rattle.ebpf_insn.specs.declared.register.Reg.{Reg}
use Rattle.ebpf_state.specs.declared.value.Abs.{Abs}
use Rattle.ebpf_state.specs.declared.value.Abs.TheVariants.{Stk, Ctx, Ob}
use Rattle.ebpf_state.specs.Stack.{bytes_in}
use Rattle.ebpf_state.specs.StateView.{StateView}
use Rattle.ebpf_state.specs.States.{register_of}
use Rattle.ebpf_text.specs.Operands.{register_text}
use Rattle.ebpf_explain.specs.declared.accesses.Access.{Access}
use Rattle.ebpf_explain.specs.declared.rooms.Ends.{Ends}
use Rattle.ebpf_explain.specs.declared.rooms.Room.{Room}
use Rattle.ebpf_explain.specs.Accesses.{bytes_text}

-- how far a pointer is moved, at least and at most
abbrev pub pointer_ends : Abs → Option Ends
pointer_ends (Stk k) = Some (record { low = k; high = k })
pointer_ends (Ctx a b) = Some (record { low = a; high = b })
pointer_ends (Ob call a b) = Some (record { low = a; high = b })
pointer_ends _ = None

-- the offsets between some ends that have n bytes, `on` bytes on, among others: from the first of these to the end
abbrev pub room_among : Ends → ℤ → ℕ → Ends → Room
room_among known on bytes among = record { low = int_max known.low (among.low -ℤ on); high = int_min known.high ((among.high -ℤ on) -ℤ pos bytes) }

-- the offsets that an instruction can have
abbrev pub offsets : Ends
offsets = record { low = negsuc 32767; high = pos 32767 }

abbrev pub is_exact : Ends → Bool
is_exact known = int_eq known.low known.high

-- those of the base at which the access is inside; where the base has one offset alone, those in the instruction
abbrev pub room_of : Access → Ends → Ends → Room
room_of a known among =
    if is_exact known then room_among offsets known.low (bytes_in a.size) among else room_among known a.offset (bytes_in a.size) among

-- the end of the access, if it is no more than the most, and the access begins at 0 or after
abbrev pub length_up_to : ℕ → (start end : ℤ) → Option ℕ
length_up_to most start end = if int_le (pos 0) start && (int_le (pos 0) end && int_le end (pos most)) then Some (nat_abs end) else None

abbrev pub length_for : Access → Ends → ℕ → Option ℕ
length_for a known most = length_up_to most (known.low +ℤ a.offset) ((known.high +ℤ a.offset) +ℤ pos (bytes_in a.size))

abbrev pub room_text : Room → List ℕ
room_text r = signed_decimal r.low ++ (if int_eq r.low r.high then [] else codes ".." ++ signed_decimal r.high)

abbrev pub moved : Reg → Bool → Room → List ℕ
moved base true r = codes "use an offset of " ++ (room_text r ++ (codes " from " ++ register_text base))
moved base false r = codes "bound the offset of " ++ (register_text base ++ (codes " to " ++ (room_text r ++ codes " first")))

abbrev pub longer : ℕ → List ℕ
longer len = codes "declare a context of " ++ bytes_text len

abbrev pub or_longer : Option ℕ → List ℕ
or_longer None = []
or_longer (Some len) = codes ", or " ++ longer len

abbrev pub longer_alone : Option ℕ → List ℕ
longer_alone None = codes "keep within it"
longer_alone (Some len) = longer len

-- by the offsets that are inside, where there are any, and by a length that can be declared, where there is one
abbrev pub mended : Reg → Bool → Room → Option ℕ → List ℕ
mended base exact r len = if int_lt r.high r.low then longer_alone len else moved base exact r ++ or_longer len

abbrev pub mended_from : Access → Option Ends → Ends → ℕ → List ℕ
mended_from a None among most = codes "keep within it"
mended_from a (Some known) among most = mended a.base (is_exact known) (room_of a known among) (length_for a known most)

-- of an access that may be outside of some bytes, where a context of n at most may be declared in their place
abbrev pub within : Access → StateView → Ends → ℕ → List ℕ
within a s among most = mended_from a (pointer_ends (register_of s a.base)) among most
