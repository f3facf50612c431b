-- `section_definition::formed_at` meets its contract: the form, then the row made of it.
use Rattle.section_definition.proofs.Forming.{formed_refused, formed_struct, formed_func, struct_filled-fits, func_filled-fits, func_all_fits}
use Rattle.section_definition.specs.Rows.{front_row}
use Rattle.section_definition.proofs.formed_at.Goals as goal

pub overflow_add-full : goal.overflow_add-full
overflow_add-full c = struct_filled-fits c.in_ok-shape.ensures c.requires c.in-Struct.is

pub overflow_add-parameters : goal.overflow_add-parameters
overflow_add-parameters c = func_filled-fits c.in_ok-shape.ensures c.requires c.in-Func.is

pub overflow_add-full-in-Func : goal.overflow_add-full-in-Func
overflow_add-full-in-Func c = func_all_fits c.in_ok-shape.ensures c.requires c.in-Func.is

pub returns-in_err-shape : goal.returns-in_err-shape
returns-in_err-shape c =
    formed_refused (front_row c.args.front c.args.from c.args.reach c.args.used) c.args.rows.now c.args.row c.in_err-shape.ensures c.from_residual.ensures.1

pub returns-in-Struct : goal.returns-in-Struct
returns-in-Struct c = formed_struct c.in_ok-shape.ensures c.args.front c.args.from c.args.reach c.args.used c.in-Struct.is c.put_row.ensures

pub returns-in-Func : goal.returns-in-Func
returns-in-Func c = formed_func c.in_ok-shape.ensures c.args.front c.args.from c.args.reach c.args.used c.in-Func.is c.put_row-in-Func.ensures
