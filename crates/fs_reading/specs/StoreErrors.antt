-- Why a store that reads a file refuses a call. Source: own.
use Rattle.zb_model.specs.declared.store_error.StoreError.{StoreError}
use Rattle.zb_model.specs.declared.store_error.StoreError.TheVariants as store
use Rattle.fs_reading.specs.declared.errors.ReadError.{ReadError}
use Rattle.fs_reading.specs.declared.errors.ReadError.TheVariants.{ReadFault, Memory}

-- a failed read is one of the store, and so is want of memory
abbrev pub store_error_of : ReadError → StoreError
store_error_of ReadFault = store.ReadFault
store_error_of Memory = store.Memory
