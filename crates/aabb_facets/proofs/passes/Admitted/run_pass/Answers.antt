use Rattle.aabb_facets.specs.Rooms.{Room, mark_words}
use Rattle.aabb_facets.specs.Clipped.{clipped}
use mathlib.Core.List.{[]}
use mathlib.Core.Path.{ap, ◌∙◌}
use Prim.Native.Nat.{ℕ}
use Rattle.aabb_facets.proofs.passes.Admitted.run_pass.Goals as goal

pub clip_pass-requires : goal.clip_pass-requires
clip_pass-requires c =
    let a = c.args in
    c.mark_all.ensures ∙ ap (λ (k : ℕ). mark_words a.self.mesh.vertices.now a.self.clip.extents a.self.clip.eps k []) c.requires

pub returns : goal.returns
unfolding clipped
returns c =
    let e = c.clip_pass.ensures.out_facets_after in record {
      ran = record { count = ap (λ (x : Room). x.nv) e; numbers = ap (λ (x : Room). x.nf) e; vertices = ap (λ (x : Room). x.vs) e; facets = ap (λ (x : Room). x.fs) e };
      vertices_bound = c.clip_pass.ensures.vertices_bound;
    }
