use Rattle.std.proofs.Common.{◌≡◌, length, ap, ◌∙◌}
use Rattle.ncc_schema.specs.declared.schema.Schema.{Schema}
use Rattle.ncc_values.specs.Name.{is_name}
use Rattle.ncc_build.specs.Building.{refuses_var, refuses_attrs, with_var, with_attrs, with_whole}
use Rattle.ncc_build.proofs.Builders.{on_ok}
use Rattle.ncc_build.proofs.Anew.{refused_first, judged_later, whole_is}
use Rattle.ncc_build.proofs.rebuilding.add_whole.Goals as goal

pub returns-in_err-number-clause-judged : goal.returns-in_err-number-clause-judged
returns-in_err-number-clause-judged c =
    let s = c.args.builder.now.schema in
    let x = c.args.var.now in
    let judged = c.in_err-number.ensures.judged in
    refused_first _ (refuses_var (is_name x.name) s x.name x.xtype x.dims) (refuses_attrs (with_var s x.name x.xtype x.dims) (length s.vars) x.attrs)
    c.in_err-number.field-0.0 c.from_residual.result c.from_residual.ensures.1 (rw (c.as_slice.ensures, c.as_slice-2.ensures) at judged)

pub returns-clause-judged : goal.returns-clause-judged
returns-clause-judged c =
    let s = c.args.builder.now.schema in
    let x = c.args.var.now in
    let judged = c.in_ok-number.ensures.judged in
    let attrs = c.add_attrs.ensures.judged in
    judged_later (refuses_var (is_name x.name) s x.name x.xtype x.dims) (refuses_attrs (with_var s x.name x.xtype x.dims) (length s.vars) x.attrs)
    _ c.add_attrs.result (rw (c.as_slice.ensures, c.as_slice-2.ensures) at judged)
    (rw (c.reserve_attrs.ensures.same, c.in_ok-number.ensures.added, c.in_ok-number.ensures.number, c.as_slice.ensures, c.as_slice-2.ensures, c.as_slice-3.ensures) at attrs)

pub returns-clause-added : goal.returns-clause-added
returns-clause-added c =
    let s = c.args.builder.now.schema in
    let x = c.args.var.now in
    let whole : with_attrs c.var.new.self.schema c.in_ok-number.number c.as_slice-3.result.now ≡ with_whole s x =
    rw (c.in_ok-number.ensures.added, c.in_ok-number.ensures.number, c.as_slice.ensures, c.as_slice-2.ensures, c.as_slice-3.ensures) (whole_is s x) in
    let room = ap (λ (t : Schema). with_attrs t c.in_ok-number.number c.as_slice-3.result.now) c.reserve_attrs.ensures.same in
    on_ok c.add_attrs.result _ _ (λ e. e ∙ room ∙ whole) c.add_attrs.ensures.added
