-- Two triangles have a label in common exactly if they share an edge that is no open edge. Assumes nothing.
--   Labelling      each side has the number of its pair, and a label of its own on an open edge
--   labels_link    sharing a label is sharing an edge
use Prim.Native.Nat.{ℕ, ◌+◌, ◌*◌, ◌<◌}
use native.Mathlib.Omega.{arith}
use mathlib.Core.Path.{◌≡◌, refl, sym, ap, ◌∙◌, subst}
use mathlib.Core.Bool.{Bool, true, false, cond, not, ◌&&◌}
use mathlib.Core.List.{List, map, Memᴰ}
use borrow.Author.Tests.{eqb-true, eq-eqb, not-true}
use lib.Dec.{T, eqb}
use lib.ListN.{length, get_or}
use Rattle.lists.specs.Lists.{some, up_to}
use Rattle.lists.proofs.Bools.{cond_false, is_true, yes}
use Rattle.lists.proofs.Members.{some_of, of_some, and_parts, and_of, get_d_mem, mem_get_d}
use Rattle.lists.proofs.Places.{length_up, at_up, at_map_up}
use Rattle.geometry.specs.Triangles.{edges}
use Rattle.edges.specs.Edges.{same_pair}
use Rattle.components.specs.Joined.{one}
use Rattle.components.proofs.Numbers.{LabelsLink}
use Rattle.cap_triangles.specs.Selection.{Cap, cap_at, is_open_pair, share_edge}
use Rattle.cap_selection.proofs.Ways.{side_of, sides_at}
use Rattle.candidate_pool.specs.OpenEdges.{OpenEdge}

pub record Labelling (boundary : List OpenEdge) (caps : List Cap) (nc p : ℕ) (number label : ℕ → ℕ) (opens : ℕ → Bool) : Type 0 where
  pub count : length caps ≡ nc
  pub low : (s : ℕ) → s < 3 * nc → number s < p
  pub same : (s t : ℕ) → s < 3 * nc → t < 3 * nc → eqb (number s) (number t) ≡ same_pair (side_of caps s) (side_of caps t)
  pub on_open : (s : ℕ) → s < 3 * nc → opens (number s) ≡ is_open_pair boundary (side_of caps s)
  pub put : (s : ℕ) → s < 3 * nc → label s ≡ cond (opens (number s)) (p + s) (number s)

module _ (boundary : List OpenEdge) (caps : List Cap) (nc p : ℕ) (number label : ℕ → ℕ) (opens : ℕ → Bool) (f : Labelling boundary caps nc p number label opens) where
  shared_pair : (x y : ℕ) → x < 3 * nc → y < 3 * nc → (x ≡ y → ⊥) → label x ≡ label y
      → (is_open_pair boundary (side_of caps x) ≡ false) × (same_pair (side_of caps x) (side_of caps y) ≡ true)
  shared_pair x y hx hy d e = go (opens (number x)) (opens (number y)) refl refl (sym (f.put x hx) ∙ e ∙ f.put y hy)
    where
      lx : number x < p
      lx = f.low x hx

      ly : number y < p
      ly = f.low y hy

      go : (b c : Bool) → opens (number x) ≡ b → opens (number y) ≡ c → cond b (p + x) (number x) ≡ cond c (p + y) (number y)
          → (is_open_pair boundary (side_of caps x) ≡ false) × (same_pair (side_of caps x) (side_of caps y) ≡ true)
      go true true i j q = absurd (d (omega arith))
      go true false i j q = absurd (let l = ly in omega arith)
      go false true i j q = absurd (let l = lx in omega arith)
      go false false i j q = (sym (f.on_open x hx) ∙ i, sym (f.same x y hx hy) ∙ eq-eqb (number x) (number y) q)

  same_label : (x y : ℕ) → x < 3 * nc → y < 3 * nc → is_open_pair boundary (side_of caps x) ≡ false → same_pair (side_of caps x) (side_of caps y) ≡ true → label x ≡ label y
  same_label x y hx hy o s =
      let e = eqb-true (number x) (number y) (f.same x y hx hy ∙ s) in
      let i = f.on_open x hx ∙ o in
      f.put x hx
      ∙ cond_false (opens (number x)) (p + x) (number x) (number x) i refl
      ∙ e
      ∙ sym (f.put y hy ∙ cond_false (opens (number y)) (p + y) (number y) (number y) (ap opens (sym e) ∙ i) refl)

  abbrev edge : ℕ → ℕ → ℕ × ℕ
  edge i a = get_or (edges (cap_at caps i).corners) a (0, 0)

  side_edge : (i a : ℕ) → i < nc → a < 3 → side_of caps (i * 3 + a) ≡ edge i a
  side_edge i a h g = let e = f.count in sides_at caps i a (omega arith) g

  edge_in_lem : (i a : ℕ) → a < 3 → Memᴰ (edge i a) (edges (cap_at caps i).corners)
  edge_in_lem i a g = get_d_mem (edges (cap_at caps i).corners) a (0, 0) g

  shares : (i j a b : ℕ) → a < 3 → b < 3 → is_open_pair boundary (edge i a) ≡ false → same_pair (edge i a) (edge j b) ≡ true → T (share_edge boundary caps i j)
  unfolding share_edge
  shares i j a b ga gb o s =
      some_of (λ s. not (is_open_pair boundary s) && some (same_pair s) (edges (cap_at caps j).corners)) (edge_in_lem i a ga)
      (and_of (not (is_open_pair boundary (edge i a))) (some (same_pair (edge i a)) (edges (cap_at caps j).corners)) (yes (ap not o))
      (some_of (same_pair (edge i a)) (edge_in_lem j b gb) (yes s)))

  pub record Shared (i j : ℕ) : Type 0 where
    pub a : ℕ
    pub b : ℕ
    pub a_in : a < 3
    pub b_in : b < 3
    pub closed : is_open_pair boundary (edge i a) ≡ false
    pub pair : same_pair (edge i a) (edge j b) ≡ true

  of_shares : (i j : ℕ) → T (share_edge boundary caps i j) → Shared i j
  unfolding share_edge
  of_shares i j t =
      let r = of_some (λ s. not (is_open_pair boundary s) && some (same_pair s) (edges (cap_at caps j).corners)) (edges (cap_at caps i).corners) t in
      let h = and_parts (not (is_open_pair boundary r.0)) (some (same_pair r.0) (edges (cap_at caps j).corners)) r.2 in
      let q = of_some (same_pair r.0) (edges (cap_at caps j).corners) h.1 in
      let x = mem_get_d (0, 0) r.1 in
      let y = mem_get_d (0, 0) q.1 in
      let ex = x.2 in
      let ey = y.2 in
      record {
        a = x.0;
        b = y.0;
        a_in = x.1;
        b_in = y.1;
        closed = ap (λ (s : ℕ × ℕ). is_open_pair boundary s) ex ∙ not-true (is_open_pair boundary r.0) (is_true _ h.0);
        pair = (λ t. same_pair (ex t) (ey t)) ∙ is_true _ q.2;
      }

  place_is : (i : ℕ) → i < nc → get_or (up_to nc) i 0 ≡ i
  place_is i h = at_up 0 nc i h ∙ omega arith

  label_at : (t : ℕ) → t < 3 * nc → get_or (map label (up_to (3 * nc))) t 0 ≡ label t
  label_at t h = let z : 0 + t ≡ t = omega arith in at_map_up label 0 0 (3 * nc) t h ∙ ap label z

  link_places : (i j : ℕ) → i < nc → j < nc → share_edge boundary caps (get_or (up_to nc) i 0) (get_or (up_to nc) j 0) ≡ share_edge boundary caps i j
  link_places i j h g = let a = place_is i h in let b = place_is j g in λ t. share_edge boundary caps (a t) (b t)

  labels_shared : (i j a b : ℕ) → i < nc → j < nc → a < 3 → b < 3 → (i ≡ j → ⊥)
      → get_or (map label (up_to (3 * nc))) (i * 3 + a) 0 ≡ get_or (map label (up_to (3 * nc))) (j * 3 + b) 0 → T (share_edge boundary caps i j)
  labels_shared i j a b hi hj ha hb d e =
      let r = shared_pair (i * 3 + a) (j * 3 + b) (omega arith) (omega arith) (λ q. d (omega arith))
      (sym (label_at (i * 3 + a) (omega arith)) ∙ e ∙ label_at (j * 3 + b) (omega arith)) in
      let x = side_edge i a hi ha in
      let y = side_edge j b hj hb in
      shares i j a b ha hb (ap (λ (s : ℕ × ℕ). is_open_pair boundary s) (sym x) ∙ r.0) ((λ t. same_pair (sym x t) (sym y t)) ∙ r.1)

  shared_labels : (i j : ℕ) → i < nc → j < nc → (s : Shared i j) → get_or (map label (up_to (3 * nc))) (i * 3 + s.a) 0 ≡ get_or (map label (up_to (3 * nc))) (j * 3 + s.b) 0
  shared_labels i j hi hj s =
      let ha = s.a_in in
      let hb = s.b_in in
      let x = side_edge i s.a hi ha in
      let y = side_edge j s.b hj hb in
      label_at (i * 3 + s.a) (omega arith)
      ∙ same_label (i * 3 + s.a) (j * 3 + s.b) (omega arith) (omega arith) (ap (λ (s : ℕ × ℕ). is_open_pair boundary s) x ∙ s.closed) ((λ t. same_pair (x t) (y t)) ∙ s.pair)
      ∙ sym (label_at (j * 3 + s.b) (omega arith))

  pub labels_link : LabelsLink (map label (up_to (3 * nc))) 3 (share_edge boundary caps) (up_to nc)
  labels_link =
      let l = length_up 0 nc in
      record {
        shared = λ i j d s.
            let hi = s.i_in in
            let hj = s.j_in in
            let li : i < nc = omega arith in
            let lj : j < nc = omega arith in
            subst T (sym (link_places i j li lj)) (labels_shared i j s.a s.b li lj s.a_in s.b_in d s.label);
        linked = λ i j hi hj t.
            let li : i < nc = omega arith in
            let lj : j < nc = omega arith in
            let s = of_shares i j (subst T (link_places i j li lj) t) in
            one (record {
              a = s.a;
              b = s.b;
              i_in = hi;
              j_in = hj;
              a_in = s.a_in;
              b_in = s.b_in;
              label = shared_labels i j li lj s;
            });
      }
