-- Entries of a map whose keys and values a contract sees by a function of each: a look-up and an insertion among what
-- is seen are those among the entries themselves.
use Rattle.std.proofs.Common.{◌≡◌, Bool, true, false, cond, List, [], ◌∷◌, map, Bor, ◌++◌, refl, sym, ap, ◌∙◌, Option, Some}
use Rattle.std.specs.Option.{option_map}
use Rattle.std.specs.List.{AllZip}
use Rattle.std.specs.Map.{lookup}
use Rattle.std.specs.Map.Iter.{deref_pair}
use Rattle.std.proofs.lemmas.List.{map-append}
use Rattle.std.proofs.lemmas.Simd.{map-map}
use Rattle.std.specs.Ordering.{match_ordering}
use Rattle.std.specs.declared.cmp.Ordering.{Ordering}
use Rattle.std.specs.declared.cmp.Ordering.TheVariants.{Less, Equal, Greater}
use Rattle.std.specs.BTreeMap as tree
use Rattle.indexmap.specs.IndexMap.{insert_entry}

module _ {K L X Y : Type 0} (key : K → L) (value : X → Y) where
  abbrev pub seen : K × X → L × Y
  seen e = (key e.0, value e.1)

  found_first : (b : Bool) (v : X) (o : Option X) (p : Option Y) → p ≡ option_map value o → cond b (Some (value v)) p ≡ option_map value (cond b (Some v) o)
  found_first true v o p h = refl
  found_first false v o p h = h

  pub lookup-seen : (test : L → Bool) (es : List (K × X)) → lookup test (map seen es) ≡ option_map value (lookup (λ k. test (key k)) es)
  lookup-seen test [] = refl
  lookup-seen test (e ∷ es) = found_first (test (key e.0)) e.1 _ _ (lookup-seen test es)

  -- clones are seen alike
  pub clones_seen : (C : K → K → Type 0) (D : X → X → Type 0) → ((k l : K) → C k l → key l ≡ key k) → ((v w : X) → D v w → value w ≡ value v)
      → (es fs : List (K × X)) → AllZip (λ e f. C e.0 f.0 × D e.1 f.1) es fs → map seen fs ≡ map seen es
  clones_seen C D keys values [] [] h = refl
  clones_seen C D keys values [] (f ∷ fs) h = absurd h
  clones_seen C D keys values (e ∷ es) [] h = absurd h
  clones_seen C D keys values (e ∷ es) (f ∷ fs) h =
      ap (λ k. (k, value f.1) ∷ map seen fs) (keys e.0 f.0 h.0.0) ∙ ap (λ v. (key e.0, v) ∷ map seen fs) (values e.1 f.1 h.0.1)
      ∙ ap (λ rest. seen e ∷ rest) (clones_seen C D keys values es fs h.1)

  put_first : (b : Bool) (e : K × X) (v : X) (es xs : List (K × X)) (ys : List (L × Y)) → map seen xs ≡ ys → map seen (cond b ((e.0, v) ∷ es) (e ∷ xs)) ≡ cond b ((key e.0, value v) ∷ map seen es) (seen e ∷ ys)
  put_first true e v es xs ys h = refl
  put_first false e v es xs ys h = ap (λ rest. seen e ∷ rest) h

  pub insert_entry-seen : (eq : L → L → Bool) (es : List (K × X)) (k : K) (v : X) → map seen (insert_entry (λ a b. eq (key a) (key b)) es k v) ≡ insert_entry eq (map seen es) (key k) (value v)
  insert_entry-seen eq [] k v = refl
  insert_entry-seen eq (e ∷ es) k v = put_first (eq (key k) (key e.0)) e v es _ _ (insert_entry-seen eq es k v)

  place_first : (r : Ordering) (e : K × X) (k : K) (v : X) (es xs : List (K × X)) (ys : List (L × Y)) → map seen xs ≡ ys → map seen (match_ordering r ((k, v) ∷ e ∷ es) ((e.0, v) ∷ es) (e ∷ xs)) ≡ match_ordering r ((key k, value v) ∷ seen e ∷ map seen es) ((key e.0, value v) ∷ map seen es) (seen e ∷ ys)
  place_first Less e k v es xs ys h = refl
  place_first Equal e k v es xs ys h = refl
  place_first Greater e k v es xs ys h = ap (λ rest. seen e ∷ rest) h

  pub tree_insert_entry-seen : (cmp : L → L → Ordering) (es : List (K × X)) (k : K) (v : X) → map seen (tree.insert_entry (λ a b. cmp (key a) (key b)) es k v) ≡ tree.insert_entry cmp (map seen es) (key k) (value v)
  tree_insert_entry-seen cmp [] k v = refl
  tree_insert_entry-seen cmp (e ∷ es) k v = place_first (cmp (key k) (key e.0)) e k v es _ _ (tree_insert_entry-seen cmp es k v)

  -- the same of entries that are lent
  abbrev pub seen_lent : Bor K × Bor X → L × Y
  seen_lent e = (key e.0.now, value e.1.now)

  -- what a loop over a map has read at its end is what contracts see of the map
  pub whole_seen : (entries : List (K × X)) (view : List (L × Y)) (yielded : List (Bor K × Bor X)) → map deref_pair yielded ≡ entries → map seen entries ≡ view → map seen_lent yielded ≡ view
  whole_seen entries view yielded whole is = sym (map-map seen deref_pair yielded) ∙ ap (map seen) whole ∙ is

  -- and before, it is the first of it, behind which the next entry stands
  pub part_seen : (entries rest : List (K × X)) (view : List (L × Y)) (yielded : List (Bor K × Bor X)) (e : Bor K × Bor X) → entries ≡ map deref_pair yielded ++ deref_pair e ∷ rest → map seen entries ≡ view → view ≡ map seen_lent yielded ++ seen_lent e ∷ map seen rest
  part_seen entries rest view yielded e part is =
      sym is ∙ ap (map seen) part ∙ map-append seen (map deref_pair yielded) (deref_pair e ∷ rest) ∙ ap (λ xs. xs ++ seen_lent e ∷ map seen rest) (map-map seen deref_pair yielded)
