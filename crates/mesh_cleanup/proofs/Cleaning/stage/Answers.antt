use lib.ListN.{length}
use Rattle.mesh_cleanup.specs.Clean.{clean_asked}
use Rattle.mesh_cleanup.proofs.Staging.{keys_in, weld_room, numbered, last_room, staged}
use Rattle.mesh_cleanup.proofs.Cleaning.stage.Goals as goal

pub weld-count-requires : goal.weld-count-requires
weld-count-requires c =
    let s = c in
    let a = s.args in
    let k = a.self.now in record {
      n_bound = weld_room k.mesh.vertices.now k.mesh.facets.now (clean_asked k.eps) (length a.work.now) s.requires;
      keys_in = keys_in k.mesh.vertices.now k.mesh.facets.now (clean_asked
          k.eps) (length a.work.now) s.requires;
    }

pub filter-passed-requires : goal.filter-passed-requires
filter-passed-requires c =
    let s = c in
    let a = s.args in
    let k = a.self.now in
    numbered k.mesh.vertices.now k.mesh.facets.now (clean_asked k.eps) (length a.work.now) s.requires c.weld-count.new.m
    c.weld-count.auto.m
    c.weld-count.result c.weld-count.ensures

pub remove_small_disconnected_components-requires : goal.remove_small_disconnected_components-requires
remove_small_disconnected_components-requires c =
    let s = c in
    let a = s.args in
    let k = a.self.now in
    last_room k.mesh.vertices.now k.mesh.facets.now (clean_asked k.eps) (length a.work.now) s.requires c.weld-count.new.m
    c.weld-count.auto.m c.weld-count.result
    c.weld-count.ensures c.filter-passed.new.m c.filter-passed.result
    c.filter-passed.ensures

pub returns : goal.returns
returns c =
    let s = c in
    let a = s.args in
    let k = a.self.now in
    staged k.mesh.vertices.now k.mesh.facets.now (clean_asked k.eps) (length a.work.now) s.requires
    c.weld-count.new.m
    c.weld-count.auto.m
    c.weld-count.result
    c.weld-count.ensures c.filter-passed.new.m
    c.filter-passed.result c.filter-passed.ensures
    c.remove_small_disconnected_components.result c.remove_small_disconnected_components.new.m
    c.remove_small_disconnected_components.ensures
