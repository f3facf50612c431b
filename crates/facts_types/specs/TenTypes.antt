-- The ten abstract heap types from document 01's own sentences, beside the fixed table of scope's specs/Abstract.antt: their codes,
-- and which stands directly below which. proofs/TenTypes.antt proves that the table says the same.
use Rattle.std.specs.Prelude.{ℕ}
use Rattle.scope.specs.Abstract.{Abstract, NOFUNC, NOEXTERN, NONE, FUNC, EXTERN, ANY, EQ, I31, STRUCT, ARRAY}

-- "73 nofunc, 72 noextern, 71 none, 70 func, 6F extern, 6E any, 6D eq, 6C i31, 6B struct, 6A array."
pub data CodeOf : ℕ → Abstract → Type 0 where
  code_73 : CodeOf 0x73 NOFUNC
  code_72 : CodeOf 0x72 NOEXTERN
  code_71 : CodeOf 0x71 NONE
  code_70 : CodeOf 0x70 FUNC
  code_6F : CodeOf 0x6F EXTERN
  code_6E : CodeOf 0x6E ANY
  code_6D : CodeOf 0x6D EQ
  code_6C : CodeOf 0x6C I31
  code_6B : CodeOf 0x6B STRUCT
  code_6A : CodeOf 0x6A ARRAY

-- Rule 6: "none below i31, struct, array; these below eq, eq below any; nofunc below func; noextern below extern."
pub data Listed : Abstract → Abstract → Type 0 where
  none_below_i31 : Listed NONE I31
  none_below_struct : Listed NONE STRUCT
  none_below_array : Listed NONE ARRAY
  i31_below_eq : Listed I31 EQ
  struct_below_eq : Listed STRUCT EQ
  array_below_eq : Listed ARRAY EQ
  eq_below_any : Listed EQ ANY
  nofunc_below_func : Listed NOFUNC FUNC
  noextern_below_extern : Listed NOEXTERN EXTERN

-- "Order is reflexive and transitive."
pub data AbstractOrder : Abstract → Abstract → Type 0 where
  as_listed : {a b : Abstract} → Listed a b → AbstractOrder a b
  same_abstract_lem : {a : Abstract} → AbstractOrder a a
  by_way_of : {a b c : Abstract} → AbstractOrder a b → AbstractOrder b c → AbstractOrder a c

-- the three hierarchies: a type's top is the one that nothing is above, its bottom the one that nothing is below
pub data Hierarchy : Abstract → Abstract → Type 0 where
  of_any : Hierarchy NONE ANY
  of_func : Hierarchy NOFUNC FUNC
  of_extern : Hierarchy NOEXTERN EXTERN
