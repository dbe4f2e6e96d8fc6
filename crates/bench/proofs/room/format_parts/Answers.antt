-- `bench::room::format_parts` meets its contract.
-- Assumes nothing.
use mathlib.Core.Path.{ap}
use native.Mathlib.Omega.{arith}
use Rattle.shelf.specs.declared.record.Shelf.{Shelf}
use Rattle.bench.proofs.BenchLaws.{fitting, rooms, part_within}
use Rattle.bench.proofs.ServeLaws.{formatted_in}
use Rattle.bench.proofs.room.format_parts.Goals as goal

pub array_length-a-requires : goal.array_length-a-requires
array_length-a-requires c = (fitting _ c.requires).0

pub log_length-l-requires : goal.log_length-l-requires
log_length-l-requires c = (fitting _ c.requires).0

pub list_length-t-requires : goal.list_length-t-requires
list_length-t-requires c = (fitting _ c.requires).0

pub slice_bounds-shelf_format-end : goal.slice_bounds-shelf_format-end
slice_bounds-shelf_format-end c = omega (arith, c.array_length-a.ensures.value, (rooms _ c.requires).0)

pub slice_bounds-shelf_format-end-3 : goal.slice_bounds-shelf_format-end-3
slice_bounds-shelf_format-end-3 c = omega (arith, c.log_length-l.ensures.value, (rooms _ c.requires).1.0)

pub slice_bounds-shelf_format-end-5 : goal.slice_bounds-shelf_format-end-5
slice_bounds-shelf_format-end-5 c = omega (arith, c.list_length-t.ensures.value, (rooms _ c.requires).1.1)

pub returns : goal.returns
returns c =
    let a = c.array_length-a.ensures.value in
    let l = c.log_length-l.ensures.value in
    let t = c.list_length-t.ensures.value in
    let k = c.shelf_format-fresh.auto in
    formatted_in
    (record {
      a_is = a;
      l_is = l;
      t_is = t;
      a_kept = k.array;
      l_kept = k.log;
      t_kept = k.list;
      a_room = part_within _ _ c.args.array.now a (rooms _ c.requires).0 c.told-array;
      l_room = part_within _ _ c.args.log.now l (rooms _ c.requires).1.0 c.told-log;
      t_room = part_within _ _ c.args.list.now t (rooms _ c.requires).1.1 c.told-list;
    })
    _ _ (ap (λ (s : Shelf). s.geometry) c.fresh.ensures) c.requires c.shelf_format-fresh.ensures.list_after
