-- The functions of a file as rows, a symbol at a time.
use Rattle.std.proofs.Common.{◌≡◌, ◌+◌, ◌++◌, ℕ, Bool, true, false, List, [], ◌∷◌, length, map, filter, slice_set, refl, sym, ap, ◌∙◌, append-nil, arith}
use Rattle.std.specs.List.{range_with_len}
use Rattle.std.proofs.Math.Seq.{take-nil}
use Rattle.std.proofs.lemmas.List.{length_push, map-id, map_push}
use Rattle.std.proofs.lemmas.List.Elements.{filter-append}
use Rattle.std.proofs.lemmas.List.FromFn.{map-range_with_len_more}
use Rattle.ebpf_object_file.specs.declared.entry.Entry.{Entry}
use Rattle.ebpf_object_file.specs.declared.functions.Functions.{Functions}
use Rattle.ebpf_object_file.specs.Entries.{IsEntry, is_listed, listed_below}
use Rattle.ebpf_host.specs.Copying.{copied}
use Rattle.ebpf_host_c.specs.declared.functions.FunctionRow.{FunctionRow}
use Rattle.ebpf_host_c.specs.Functions.{row_at, row_of, rows_below}

-- one more item in some room
pub copied_more : {X : Type 0} (xs room : List X) (x : X) → slice_set (copied xs room) (length xs) x ≡ copied (xs ++ (x ∷ [])) room
copied_more [] [] x = refl
copied_more [] (r ∷ room) x = ap (λ rest. x ∷ (rest ++ room)) (sym (take-nil (length room)))
copied_more (y ∷ xs) [] x = refl
copied_more (y ∷ xs) (r ∷ room) x = ap (λ rest. y ∷ rest) (copied_more xs room x)

-- the next number
counted_more : (n : ℕ) → range_with_len 0 (n + 1) ≡ range_with_len 0 n ++ (n ∷ [])
counted_more n =
    sym (map-id (range_with_len 0 (n + 1))) ∙ map-range_with_len_more (λ (k : ℕ). k) 0 n n (omega arith)
    ∙ ap (λ (ks : List ℕ). ks ++ (n ∷ [])) (map-id (range_with_len 0 n))

passed : (p : ℕ → Bool) (n : ℕ) → p n ≡ true → filter p (n ∷ []) ≡ n ∷ []
passed p n e = rw e refl

left_out : (p : ℕ → Bool) (n : ℕ) → p n ≡ false → filter p (n ∷ []) ≡ []
left_out p n e = rw e refl

next_numbers : (f : Functions) (n : ℕ) → listed_below f (n + 1) ≡ listed_below f n ++ filter (is_listed f) (n ∷ [])
next_numbers f n = ap (filter (is_listed f)) (counted_more n) ∙ filter-append (is_listed f) (range_with_len 0 n) (n ∷ [])

-- the next symbol is a function, or it is none
pub one_row : (f : Functions) (n : ℕ) → is_listed f n ≡ true → rows_below f (n + 1) ≡ rows_below f n ++ (row_at f n ∷ [])
one_row f n e =
    ap (map (row_at f)) (next_numbers f n ∙ ap (λ (ks : List ℕ). listed_below f n ++ ks) (passed (is_listed f) n e))
    ∙ map_push (row_at f) (listed_below f n) n

pub no_row : (f : Functions) (n : ℕ) → is_listed f n ≡ false → rows_below f (n + 1) ≡ rows_below f n
no_row f n e =
    ap (map (row_at f)) (next_numbers f n ∙ ap (λ (ks : List ℕ). listed_below f n ++ ks) (left_out (is_listed f) n e) ∙ append-nil (listed_below f n))

-- the row of a function is that of its symbol
row_is : (f : Functions) (n : ℕ) (e : Entry) → IsEntry f n e → row_of e ≡ row_at f n
row_is f n e h = rw (h.name, h.section, h.slots) refl

-- what is written then
pub row_given : (f : Functions) (n count : ℕ) (rows room : List FunctionRow) (e : Entry) → is_listed f n ≡ true → IsEntry f n e
    → count ≡ length (rows_below f n) → rows ≡ copied (rows_below f n) room → slice_set rows count (row_of e) ≡ copied (rows_below f (n + 1)) room
row_given f n count rows room e listed entry counted written =
    rw (one_row f n listed, row_is f n e entry, counted, written) (copied_more (rows_below f n) room (row_at f n))

pub row_counted : (f : Functions) (n count : ℕ) → is_listed f n ≡ true → count ≡ length (rows_below f n) → count + 1 ≡ length (rows_below f (n + 1))
row_counted f n count listed counted = rw (one_row f n listed, length_push (rows_below f n) (row_at f n), counted) refl
