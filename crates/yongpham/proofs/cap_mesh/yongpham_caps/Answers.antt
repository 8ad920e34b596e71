use mathlib.Core.Path.{refl, sym, ◌∙◌}
use Rattle.caps.proofs.Modes.{is_mode, no_mode}
use Rattle.yongpham.proofs.Reports.{caps_none, caps_reported}
use Rattle.yongpham.proofs.cap_mesh.yongpham_caps.Goals as goal

pub returns-in_default : goal.returns-in_default
returns-in_default c =
    caps_none _ _ _ _ _ _ _ _ _ _ _ _ _ _
    (no_mode c.args.mode c.in_default.field-0 (sym c.mode_from.ensures ∙ c.in_default.is)) c.zero.ensures refl refl
    c.refuse_mode.ensures

pub returns : goal.returns
returns c =
    let m = is_mode c.args.mode c.in-Ok.mode (sym c.mode_from.ensures ∙ c.in-Ok.is) in
    rw (sym c.box_of-extents.ensures)
    (caps_reported _ _ _ _ _ _ _ _ _ _ _ _ _ _ _ _ m.0 m.1
    c.cap_mesh_to_aabb-reply.ensures c.report_reply.ensures)
