use Rattle.candidate_pool.specs.OpenEdges.{open_edge_words}
use Rattle.candidate_constraints.specs.Constraints.{constraint_words}
use Rattle.candidate_constraints.specs.Steps.{unpacked}
use Rattle.candidate_pool.specs.Standing.{edges_at}
use Rattle.lists.specs.Regions.{view}
use lib.Seq.{sets}
use lib.ListN.{length}
use Prim.Native.Nat.{ℕ}
use mathlib.Core.List.{List, map}
use mathlib.Core.Path.{ap, ◌∙◌}
use native.Mathlib.Omega.{arith}
use Rattle.candidate_outputs.proofs.Blocks.{part_is}
use Rattle.candidate_outputs.proofs.Lengths.{all_lists_long, edges_long, edges_few}
use Rattle.candidate_outputs.proofs.Delivery.{short_candidates, short_lists, short_constraints, short_edges, done}
use Rattle.candidate_outputs.proofs.outputs.deliver.Goals as goal

pub overflow_mul-e : goal.overflow_mul-e
overflow_mul-e c =
    let s = c in
    let a = s.args in
    let h = edges_few a.room.n a.room.nf a.k a.listed a.total a.w.now s.requires in
    omega (arith, h, s.requires.small_facets)

pub returns-then-candidates-c : goal.returns-then-candidates-c
returns-then-candidates-c c =
    let s = c in
    let a = s.args in
    short_candidates a.room.n a.room.nf a.k a.listed a.total a.w.now s.requires _ c.listed_numbers-l.ensures.0 a.candidates.now
    a.face_lists.now a.constraints.now a.open_edges.now c.if-candidates-c.true

pub returns-then-face_lists-l : goal.returns-then-face_lists-l
returns-then-face_lists-l c =
    let s = c in
    let a = s.args in
    short_lists a.room.n a.room.nf a.k a.listed a.total a.w.now s.requires _ c.listed_numbers-l.ensures.0 a.candidates.now
    a.face_lists.now a.constraints.now a.open_edges.now c.if-candidates-c.false c.if-face_lists-l.true

pub returns-then-constraints-t : goal.returns-then-constraints-t
returns-then-constraints-t c =
    let s = c in
    let a = s.args in
    short_constraints a.room.n a.room.nf a.k a.listed a.total a.w.now s.requires _ c.listed_numbers-l.ensures.0 a.candidates.now
    a.face_lists.now a.constraints.now a.open_edges.now c.if-candidates-c.false (omega arith) c.if-constraints-t.true

pub returns-then-open_edges-e : goal.returns-then-open_edges-e
returns-then-open_edges-e c =
    let s = c in
    let a = s.args in
    short_edges a.room.n a.room.nf a.k a.listed a.total a.w.now s.requires _ c.listed_numbers-l.ensures.0 a.candidates.now
    a.face_lists.now a.constraints.now a.open_edges.now c.if-candidates-c.false c.if-face_lists-l.false c.if-constraints-t.false c.if-open_edges-e.true

pub write_face_lists-requires : goal.write_face_lists-requires
write_face_lists-requires c =
    let s = c in
    let a = s.args in
    let l = all_lists_long a.room.n a.room.nf a.k a.listed a.total a.w.now s.requires _
    c.listed_numbers-l.ensures.0 in record { n_bound = omega (arith, s.requires.size); by_index = s.requires.short; w_in_bounds = omega (arith, c.if-face_lists-l.false, l) }

pub write_edges-requires : goal.write_edges-requires
write_edges-requires c =
    let fit = c in
    let s = fit in
    let a = s.args in
    let e = ap (λ (x : ℕ). length (open_edge_words (edges_at a.w.now x a.k))) c.open_edges_at.ensures in
    let l = edges_long a.room.n a.room.nf a.k a.listed a.total a.w.now s.requires in
    record {
      k_in_bounds = omega (arith, s.requires.size, s.requires.edges, c.open_edges_at.ensures);
      k_in_bounds_2 = omega (arith, fit.if-open_edges-e.false, l, e);
    }

pub returns : goal.returns
returns c =
    let edges = c in
    let constraints = edges in
    let before-constraints = constraints.before.before in
    let lists = before-constraints in
    let words = lists in
    let fit = words in
    let numbers = fit in
    let s = numbers in
    let a = s.args in
    let w = a.w.now in
    done a.room.n a.room.nf a.k a.listed a.total w s.requires _ numbers.listed_numbers-l.ensures.0 a.candidates.now a.face_lists.now a.constraints.now
    a.open_edges.now fit.if-candidates-c.false fit.if-face_lists-l.false fit.if-constraints-t.false fit.if-open_edges-e.false _ _ _ _
    (words.write_words.ensures ∙ ap (sets a.candidates.now 0) (part_is w 8 _))
    lists.write_face_lists.ensures
    (constraints.write_constraints.ensures ∙ ap (λ (l : List ℕ). sets a.constraints.now 0 (constraint_words (map unpacked l)))
    (part_is w c.constraints_at-keys.result a.total ∙ ap (λ (x : ℕ). view w x a.total) c.constraints_at-keys.ensures))
    (c.write_edges.ensures ∙ ap (λ (x : ℕ). sets a.open_edges.now 0 (open_edge_words (edges_at w x a.k))) edges.open_edges_at.ensures)
